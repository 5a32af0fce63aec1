use Rattle.std.proofs.Common.{map, take}
use Rattle.elimination.specs.Storage.{row_of}
use Rattle.symbolic.proofs.Spreading.{Spread}
use Rattle.symbolic.proofs.fills.spread.Given as goal

abbrev pub invariant-loop-entry : goal.invariant-loop-entry
invariant-loop-entry l = Spread l.j (take l.entry-index (map row_of l.entries)) l.initial.marks l.marks
