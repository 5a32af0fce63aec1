use Rattle.std.proofs.Common.{vec_items}
use Rattle.network.specs.OrderSheet.{orders}
use Rattle.network.proofs.Marking.{Marked}
use Rattle.network.proofs.matrices.Permuted.marks.Given as goal

abbrev pub invariant-loop-entry : goal.invariant-loop-entry
invariant-loop-entry l = Marked l.n (orders l.self.order) (vec_items l.self.network.entries) l.entry-index (vec_items l.marks)
