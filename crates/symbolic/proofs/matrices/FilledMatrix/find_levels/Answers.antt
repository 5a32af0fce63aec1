use Rattle.std.proofs.Common.{◌≡◌, ℕ, ◌<◌, List, [], ◌∷◌, ◌++◌, length, get_or, refl, ap, sym, ◌∙◌, arith}
use Rattle.std.proofs.lemmas.List.{get_or_default}
use Rattle.elimination.specs.Plans.{awaited_by, level_past, levels_of}
use Rattle.elimination.proofs.Levels.{levels_more, levels_long, level_below}
use Rattle.symbolic.specs.Filling.{filled_of}
use Rattle.symbolic.proofs.FilledFacts.{awaited_inside, awaited_is, below, through, rows_are}
use Rattle.symbolic.proofs.matrices.FilledMatrix.find_levels.Goals as goal

pub level_after-level-requires : goal.level_after-level-requires
level_after-level-requires c =
    let x = c.args.self.now in
    let m = x.matrix in
    let n = m.network.n in
    let f = filled_of m in
    let k = c.loop-column.column-index in
    let columns = c.deref-column-items.result.now in
    let lent = c.deref-column-items.ensures.value in
    let more = c.loop-column-test.true in
    let less = below f n n x.filled x.holds columns lent k more in
    let levels : c.deref.result.now ≡ levels_of f k = c.deref.ensures.value ∙ c.loop-column.invariant in
    let long : length c.deref.result.now ≡ k = ap length levels ∙ levels_long f k in
    let awaited = c.awaited_of.ensures ∙ awaited_is f n n x.filled x.holds columns lent k more c.column-item.result c.column-item.is (omega arith) _ refl in
    record {
      inside = λ t d h. omega (arith, long, awaited_inside f k c.awaited_of.result.now awaited t d h);
      low = λ j d h.
          let inside : j < k = omega (arith, long, h) in
          let level : get_or c.deref.result.now j d ≡ get_or (levels_of f k) j d = ap (λ (xs : List ℕ). get_or xs j d) levels in
          let same : get_or (levels_of f k) j d ≡ get_or (levels_of f k) j 0 = get_or_default (levels_of f k) j d 0 (omega (arith, levels_long f k)) in
          omega (arith, level, same, level_below f k j inside, inside, less, m.network.columns_fit.1);
    }

pub loop-column-preserved : goal.loop-column-preserved
loop-column-preserved c =
    let x = c.args.self.now in
    let m = x.matrix in
    let n = m.network.n in
    let f = filled_of m in
    let k = c.loop-column.column-index in
    let columns = c.deref-column-items.result.now in
    let lent = c.deref-column-items.ensures.value in
    let more = c.loop-column-test.true in
    let less = below f n n x.filled x.holds columns lent k more in
    let levels : c.deref.result.now ≡ levels_of f k = c.deref.ensures.value ∙ c.loop-column.invariant in
    let awaited = rows_are k c.awaited_of.result.now (awaited_by f k) (c.awaited_of.ensures ∙ awaited_is f n n x.filled x.holds columns lent k more c.column-item.result c.column-item.is (omega arith) _ refl) in
    let level : c.level_after-level.result ≡ level_past (levels_of f k) (awaited_by f k) = c.level_after-level.ensures ∙ (λ i. level_past (levels i) (awaited i)) in
    c.in_ok-push.ensures.items ∙ (λ i. c.loop-column.invariant i ++ level i ∷ []) ∙ sym (levels_more f k)

pub returns : goal.returns
returns c =
    let x = c.args.self.now in
    let n = x.matrix.network.n in
    let f = filled_of x.matrix in
    let lent = c.deref-column-items.ensures.value in
    let end = through f n n x.filled x.holds _ lent _ c.loop-column-test.false c.loop-column.auto.column-index-end in
    c.loop-column.invariant ∙ ap (levels_of f) end
