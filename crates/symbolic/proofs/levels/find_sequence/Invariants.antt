use Rattle.std.proofs.Common.{◌≡◌, vec_items}
use Rattle.elimination.specs.Plans.{by_level}
use Rattle.symbolic.proofs.levels.find_sequence.Given as goal

abbrev pub invariant-loop-level : goal.invariant-loop-level
invariant-loop-level l = vec_items l.sequence ≡ by_level l.levels l.level
