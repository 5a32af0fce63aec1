use Rattle.std.proofs.Common.{◌≡◌, ◌-◌}
use Rattle.elimination.specs.Plans.{diagonal_verdict, diagonals_checked}
use Rattle.refusals.specs.Checks.{each_from}
use Rattle.symbolic.specs.Filling.{filled_of}
use Rattle.symbolic.proofs.matrices.FilledMatrix.check_diagonals.Given as goal

abbrev pub invariant-loop-k : goal.invariant-loop-k
invariant-loop-k l =
    let n = l.self.matrix.network.n in
    let f = filled_of l.self.matrix in
    each_from (diagonal_verdict f) l.k (n - l.k) ≡ diagonals_checked f n
