use Rattle.std.proofs.Common.{◌≡◌, ℕ, length, map, vec_len, ap, ◌∙◌, subst, arith}
use Rattle.elimination.specs.Plans.{in_column, rows_of}
use Rattle.symbolic.specs.Marks.{marks_in}
use Rattle.symbolic.specs.Tables.{filled_from, tabled}
use Rattle.symbolic.proofs.ColumnFill.{TakenUp, taken_none, taken_skips, taken_more, taken_all}
use Rattle.symbolic.proofs.FilledFacts.{below, through, column_is, column_inside, rows_are}
use Rattle.symbolic.proofs.fills.fill_column.Goals as goal
use Rattle.symbolic.proofs.fills.fill_column.Goals.{then-marks-j, else-marks-j}

pub loop-j-init : goal.loop-j-init
loop-j-init c =
    let table = c.args.table.now in
    taken_none table (vec_len c.args.filled.now.columns) c.requires.inside c.copy_column.new.marks (c.copy_column.ensures ∙ ap (marks_in (tabled table) table.n) c.len.ensures)

pub bounds-marks-j : goal.bounds-marks-j
bounds-marks-j c =
    let table = c.args.table.now in
    let lent = c.deref-column-items.ensures.value in
    omega (arith, below (filled_from table) table.n (vec_len c.args.filled.now.columns) c.args.filled.now c.requires.holds c.deref-column-items.result.now lent c.loop-j.j c.loop-j-test.true, c.requires.long, c.copy_column.auto.marks, c.loop-j.auto.marks)

pub spread-requires : goal.spread-requires
spread-requires c =
    let table = c.args.table.now in
    let f = filled_from table in
    let j = c.loop-j.j in
    let column : c.entries_of.result.now ≡ map (in_column j) (rows_of f table.n j) =
    column_is f table.n (vec_len c.args.filled.now.columns) c.args.filled.now c.requires.holds c.deref-column-items.result.now c.deref-column-items.ensures.value j c.loop-j-test.true c.column-item.result c.column-item.is c.entries_of.result.now c.entries_of.ensures in
    λ t d inside. omega (arith, column_inside f table.n j c.entries_of.result.now column t d inside, c.requires.long, c.copy_column.auto.marks, c.loop-j.auto.marks)

pub loop-j-preserved : goal.loop-j-preserved
loop-j-preserved c =
    let table = c.args.table.now in
    let n = table.n in
    let f = filled_from table in
    let k = vec_len c.args.filled.now.columns in
    let j = c.loop-j.j in
    let columns = c.deref-column-items.result.now in
    let lent = c.deref-column-items.ensures.value in
    let less = below f n k c.args.filled.now c.requires.holds columns lent j c.loop-j-test.true in
    let long : length c.loop-j.marks ≡ n = c.loop-j.auto.marks ∙ c.copy_column.auto.marks ∙ c.requires.long in
    elim c.if-marks-j.branch [
      | then-marks-j w ↦
          let column = column_is f n k c.args.filled.now c.requires.holds columns lent j c.loop-j-test.true c.column-item.result c.column-item.is w.entries_of.result.now w.entries_of.ensures in
          rw w.marks-is (taken_more table k c.requires.inside j c.loop-j.marks w.spread.new.marks _ less (rows_are j w.entries_of.result.now (rows_of f n j) column) w.if-marks-j.true long c.loop-j.invariant w.spread.ensures)
      | else-marks-j w ↦ rw w.marks-is (taken_skips table k c.requires.inside j c.loop-j.marks less w.if-marks-j.false c.loop-j.invariant)
    ]

pub returns : goal.returns
returns c =
    let table = c.args.table.now in
    let columns = c.deref-column-items.ensures.value in
    let end = through (filled_from table) table.n (vec_len c.args.filled.now.columns) c.args.filled.now c.requires.holds _ columns _ c.loop-j-test.false c.loop-j.auto.j-end in
    let long : length c.loop-j.marks ≡ table.n = c.loop-j.auto.marks ∙ c.copy_column.auto.marks ∙ c.requires.long in
    taken_all table (vec_len c.args.filled.now.columns) c.requires.inside c.loop-j.marks long
    (subst (λ (j : ℕ). TakenUp table (vec_len c.args.filled.now.columns) j c.loop-j.marks) end c.loop-j.invariant)
