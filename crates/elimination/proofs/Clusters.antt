-- The levels before the first narrow one are wide. Assumes nothing.
use Rattle.std.proofs.Common.{ℕ, ◌≤◌, List, length, sym, ap, ◌∙◌, zero-add, arith}
use Rattle.std.specs.List.{range_with_len}
use Rattle.std.proofs.lemmas.List.FromFn.{get_or-range_with_len, length-range_with_len}
use Rattle.std.proofs.lemmas.List.Sums.{prefix_len-le-length, prefix_len_passes, prefix_len_stops}
use Rattle.elimination.specs.Laws.{Clustered}
use Rattle.elimination.specs.Plans.{wide, cluster_levels_of}

pub clustered : (levels : List ℕ) (threshold : ℕ) → Clustered (length levels) threshold levels (cluster_levels_of levels threshold)
clustered levels threshold =
    let p = wide levels threshold in
    let n = length levels in
    let c = cluster_levels_of levels threshold in
    let counted = range_with_len 0 n in
    let bound : c ≤ n = omega (arith, prefix_len-le-length p counted, length-range_with_len 0 n) in
    record {
      bound = bound;
      wide_before = λ l less. ap p (sym (get_or-range_with_len 0 n l 0 (omega arith) ∙ zero-add l)) ∙ prefix_len_passes p counted l 0 less;
      first_narrow = λ less. ap p (sym (get_or-range_with_len 0 n c 0 less ∙ zero-add c)) ∙ prefix_len_stops p counted 0 (omega (arith, length-range_with_len 0 n));
    }
