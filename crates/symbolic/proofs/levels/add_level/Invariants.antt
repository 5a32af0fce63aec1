use Rattle.std.proofs.Common.{◌≡◌, eqb, ◌++◌, get_or, vec_items, filter}
use Rattle.std.specs.List.{range_with_len}
use Rattle.symbolic.proofs.levels.add_level.Given as goal

abbrev pub invariant-loop-k : goal.invariant-loop-k
invariant-loop-k l = vec_items l.sequence ≡ vec_items l.initial.sequence ++ filter (λ k. eqb (get_or l.levels k 0) l.level) (range_with_len 0 l.k)
