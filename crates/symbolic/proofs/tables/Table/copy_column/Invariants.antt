use Rattle.std.proofs.Common.{◌≡◌, ℕ, ◌<◌, false, get_or}
use Rattle.symbolic.specs.Tables.{tabled}
use Rattle.symbolic.proofs.tables.Table.copy_column.Given as goal

abbrev pub invariant-loop-i : goal.invariant-loop-i
invariant-loop-i l = (j : ℕ) → j < l.i → get_or l.marks j false ≡ tabled l.self j l.k
