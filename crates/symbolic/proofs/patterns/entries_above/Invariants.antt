use Rattle.std.proofs.Common.{ltb, ◌≡◌, ◌≤◌, length, take, filter}
use Rattle.symbolic.proofs.patterns.entries_above.Given as goal

abbrev pub invariant-loop-entry : goal.invariant-loop-entry
invariant-loop-entry l = (l.above ≡ length (filter (λ entry. ltb entry.row l.row) (take l.entry-index l.entries))) × (l.above ≤ l.entry-index)
