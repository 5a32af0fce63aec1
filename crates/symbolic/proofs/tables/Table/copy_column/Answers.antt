use Rattle.std.proofs.Common.{false, arith}
use Rattle.std.proofs.lemmas.List.FromFn.{fill_by_all}
use Rattle.symbolic.specs.Tables.{tabled}
use Rattle.symbolic.proofs.tables.Table.copy_column.Goals as goal

pub returns : goal.returns
returns c =
    let table = c.args.self.now in
    fill_by_all (λ i. tabled table i c.args.k) c.loop-i.marks table.n false (omega arith) (λ j h. c.loop-i.invariant j (omega arith))
