use Rattle.std.proofs.Common.{eqb, ◌≡◌, ◌≤◌, length, take, filter}
use Rattle.symbolic.proofs.levels.width.Given as goal

abbrev pub invariant-loop-other : goal.invariant-loop-other
invariant-loop-other l = (l.columns ≡ length (filter (λ other. eqb other l.level) (take l.other-index l.levels))) × (l.columns ≤ l.other-index)
