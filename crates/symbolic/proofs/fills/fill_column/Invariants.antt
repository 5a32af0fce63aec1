use Rattle.std.proofs.Common.{vec_len}
use Rattle.symbolic.proofs.ColumnFill.{TakenUp}
use Rattle.symbolic.proofs.fills.fill_column.Given as goal

abbrev pub invariant-loop-j : goal.invariant-loop-j
invariant-loop-j l = TakenUp l.table (vec_len l.filled.columns) l.j l.marks
