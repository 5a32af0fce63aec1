use Rattle.std.proofs.Common.{◌≡◌, ◌<◌, map, length, get_or, sym, ◌∙◌, arith}
use Rattle.std.proofs.lemmas.List.{get_or-map, length-map}
use Rattle.network.specs.Entries.{origin}
use Rattle.elimination.specs.Storage.{row_of}
use Rattle.symbolic.proofs.Spreading.{spread_marks, spread_skips}
use Rattle.symbolic.proofs.fills.spread.Goals as goal
use Rattle.symbolic.proofs.fills.spread.Goals.{then-i-j, else-i-j}

pub loop-entry-preserved : goal.loop-entry-preserved
loop-entry-preserved c =
    let column = c.args.entries.now in
    let t = c.loop-entry.entry-index in
    let more : t < length (map row_of column) = omega (arith, length-map column row_of) in
    let row : c.from-i.result ≡ get_or (map row_of column) t 0 = c.from-i.ensures ∙ sym (get_or-map row_of column t origin 0 c.loop-entry-test.true) in
    let inside : c.from-i.result < length c.loop-entry.marks = omega (arith, c.from-i.ensures, c.requires t origin c.loop-entry-test.true) in
    elim c.if-i-j.branch [
      | then-i-j w ↦ rw w.marks-is (spread_marks c.args.j (map row_of column) c.args.marks.now c.loop-entry.marks t c.from-i.result more row c.loop-entry.invariant w.if-i-j.true inside)
      | else-i-j w ↦ rw w.marks-is (spread_skips c.args.j (map row_of column) c.args.marks.now c.loop-entry.marks t c.from-i.result more row c.loop-entry.invariant w.if-i-j.false)
    ]
