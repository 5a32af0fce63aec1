use Rattle.std.proofs.Common.{◌≡◌, ◌-◌, Bool, true, false, sym, ap, ◌∙◌, arith}
use Rattle.elimination.specs.Plans.{diagonal_verdict}
use Rattle.refusals.specs.declared.Refusal.TheVariants.{DiagonalNotFilled}
use Rattle.refusals.specs.Checks.{each_from, passed, unless}
use Rattle.refusals.proofs.Checking.{each_from_goes, each_from_stops}
use Rattle.symbolic.specs.Filling.{filled_of}
use Rattle.symbolic.proofs.FilledFacts.{below, through, diagonal_is}
use Rattle.symbolic.proofs.matrices.FilledMatrix.check_diagonals.Goals as goal

pub returns-then-not-has_diagonal : goal.returns-then-not-has_diagonal
returns-then-not-has_diagonal c =
    let x = c.args.self.now in
    let n = x.matrix.network.n in
    let f = filled_of x.matrix in
    let k = c.loop-k.k in
    let columns = c.deref-column-items.result.now in
    let lent = c.deref-column-items.ensures.value in
    let less = below f n n x.filled x.holds columns lent k c.loop-k-test.true in
    let empty : f k k ≡ false = sym (diagonal_is f n n x.filled x.holds columns lent k c.loop-k-test.true c.column-item.result c.column-item.is less c.has_diagonal.result c.has_diagonal.ensures) ∙ c.if-not-has_diagonal.true in
    sym (each_from_stops (diagonal_verdict f) k n (DiagonalNotFilled k) less (ap (λ (b : Bool). unless b (DiagonalNotFilled k) passed) empty)) ∙ c.loop-k.invariant

pub loop-k-preserved : goal.loop-k-preserved
loop-k-preserved c =
    let x = c.args.self.now in
    let n = x.matrix.network.n in
    let f = filled_of x.matrix in
    let k = c.loop-k.k in
    let columns = c.deref-column-items.result.now in
    let lent = c.deref-column-items.ensures.value in
    let less = below f n n x.filled x.holds columns lent k c.loop-k-test.true in
    let there : f k k ≡ true = sym (diagonal_is f n n x.filled x.holds columns lent k c.loop-k-test.true c.column-item.result c.column-item.is less c.has_diagonal.result c.has_diagonal.ensures) ∙ c.if-not-has_diagonal.false in
    sym (each_from_goes (diagonal_verdict f) k n less (ap (λ (b : Bool). unless b (DiagonalNotFilled k) passed) there)) ∙ c.loop-k.invariant

pub returns : goal.returns
returns c =
    let x = c.args.self.now in
    let n = x.matrix.network.n in
    let f = filled_of x.matrix in
    let lent = c.deref-column-items.ensures.value in
    let done : n - c.loop-k.k ≡ 0 = omega (arith, through f n n x.filled x.holds _ lent _ c.loop-k-test.false c.loop-k.auto.k-end) in
    sym (ap (each_from (diagonal_verdict f) c.loop-k.k) done) ∙ c.loop-k.invariant
