use Rattle.std.proofs.Common.{◌≡◌, ◌+◌, ◌<◌, length, vec_items, refl, ap, ◌∙◌, arith}
use Rattle.elimination.specs.Plans.{start, stored_place}
use Rattle.elimination.specs.Storage.{Bounds}
use Rattle.elimination.proofs.Storing.{place_within, start_rises}
use Rattle.symbolic.specs.declared.patterns.Column.{Column}
use Rattle.symbolic.specs.Filling.{filled_of}
use Rattle.symbolic.proofs.Counting.{above_are}
use Rattle.symbolic.proofs.FilledFacts.{bounds_are, column_is, columns_long, entries_long}
use Rattle.symbolic.proofs.matrices.FilledMatrix.place_of.Goals as goal

pub index-column-requires : goal.index-column-requires
index-column-requires c =
    let x = c.args.self.now in
    let n = x.matrix.network.n in
    omega (arith, columns_long (filled_of x.matrix) n n x.filled x.holds, x.filled.columns.ok.0, c.from.ensures, c.requires.column)

pub entries_of-requires : goal.entries_of-requires
entries_of-requires c =
    let x = c.args.self.now in
    let n = x.matrix.network.n in
    let column = c.index-column.result.now in
    let k = c.from.result in
    let more : k < length (vec_items x.filled.columns) = omega (arith, columns_long (filled_of x.matrix) n n x.filled x.holds, c.from.ensures, c.requires.column) in
    omega (arith, x.filled.inside k column more, ap (λ (at : Column). at.end) c.index-column.ensures)

pub returns : goal.returns
returns c =
    let x = c.args.self.now in
    let n = x.matrix.network.n in
    let f = filled_of x.matrix in
    let i = c.args.entry.row in
    let k = c.from.result in
    let columns = vec_items x.filled.columns in
    let column = c.index-column.result.now in
    let more : k < length columns = omega (arith, columns_long f n n x.filled x.holds, c.from.ensures, c.requires.column) in
    let entries = column_is f n n x.filled x.holds columns refl k more column c.index-column.ensures c.entries_of.result.now c.entries_of.ensures in
    let begins : column.start ≡ start f n k = ap (λ (place : Bounds). place.start) (bounds_are f n n x.filled x.holds columns refl k more column c.index-column.ensures) in
    (λ d. begins d + (c.entries_above.ensures ∙ above_are f n i k c.entries_of.result.now (omega arith) entries) d) ∙ ap (stored_place f n i) c.from.ensures

pub overflow_add-result : goal.overflow_add-result
overflow_add-result c =
    let x = c.args.self.now in
    let n = x.matrix.network.n in
    let f = filled_of x.matrix in
    let i = c.args.entry.row in
    let k = c.args.entry.column in
    omega (arith, returns c, place_within f n i k (omega arith), start_rises f n n (k + 1) (omega arith), entries_long f n n x.filled x.holds, x.filled.entries.small)
