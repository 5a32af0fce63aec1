use Rattle.std.proofs.Common.{◌≡◌, ◌≤◌, false, ◌++◌, map, get_or, vec_items, vec_len, filter}
use Rattle.std.specs.List.{range_with_len}
use Rattle.elimination.specs.Plans.{in_column}
use Rattle.symbolic.proofs.patterns.gather.Given as goal

abbrev pub invariant-loop-i : goal.invariant-loop-i
invariant-loop-i l = record {
  items : vec_items l.entries ≡ vec_items l.initial.entries ++ map (in_column l.k) (filter (λ i. get_or l.marks i false) (range_with_len 0 l.i));
  grows : vec_len l.initial.entries ≤ vec_len l.entries;
}
