use Rattle.std.proofs.Common.{◌≡◌, vec_items}
use Rattle.elimination.specs.Plans.{levels_of}
use Rattle.symbolic.specs.Filling.{filled_of}
use Rattle.symbolic.proofs.matrices.FilledMatrix.find_levels.Given as goal

abbrev pub invariant-loop-column : goal.invariant-loop-column
invariant-loop-column l = vec_items l.levels ≡ levels_of (filled_of l.self.matrix) l.column-index
