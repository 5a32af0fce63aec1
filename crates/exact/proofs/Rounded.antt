-- Doubles are not exact. Assumes nothing.
use Rattle.std.proofs.Common.{◌≡◌, ℕ, cond, ◌&&◌, eqb, refl, ap, arith}
use lib.Ieee.{Float, nan, inf, fin, add, sub, mul, div, ne, fits, of_bits}
use Rattle.std.specs.Float.{float_is_finite}
use Rattle.exact.specs.Exact.{Exact}
use Rattle.scalar.specs.Pairs.{pair, pairs}
use Rattle.scalar.specs.Real.{real}
use Rattle.exact.specs.Rounding.{tenth, fifth, three_tenths, one, forty_nine, huge, negative_zero, Rounds}

-- tells the doubles below apart: m, and 1 for a negative zero
told : Float → ℕ
told nan = 0
told (inf s) = 0
told (fin s m e) = cond (s && eqb m 0) 1 m

sum_not_associative : real.sum (real.sum tenth fifth) three_tenths ≡ real.sum tenth (real.sum fifth three_tenths) → ⊥
unfolding add told
sum_not_associative same = omega (arith, ap told same)

product_not_associative : real.product (real.product tenth fifth) three_tenths ≡ real.product tenth (real.product fifth three_tenths) → ⊥
unfolding mul told
product_not_associative same = omega (arith, ap told same)

product_not_distributes : real.product three_tenths (real.sum tenth fifth) ≡ real.sum (real.product three_tenths tenth) (real.product three_tenths fifth) → ⊥
unfolding add mul told
product_not_distributes same = omega (arith, ap told same)

difference_not_undone : real.sum (real.difference one huge) huge ≡ one → ⊥
unfolding add sub told
difference_not_undone same = omega (arith, ap told same)

quotient_not_undone : real.product (real.quotient one forty_nine) forty_nine ≡ one → ⊥
unfolding mul div told
quotient_not_undone same = omega (arith, ap told same)

zero_changes : real.sum negative_zero real.zero ≡ negative_zero → ⊥
unfolding add of_bits told
zero_changes same = omega (arith, ap told same)

zeros_differ : negative_zero ≡ real.zero → ⊥
unfolding of_bits told
zeros_differ same = omega (arith, ap told same)

pub rounds : Rounds
unfolding fits float_is_finite ne of_bits
rounds =
    record {
      doubles = refl;
      sum_not_associative = sum_not_associative;
      product_not_associative = product_not_associative;
      product_not_distributes = product_not_distributes;
      difference_not_undone = difference_not_undone;
      divisor_fit = refl;
      quotient_not_undone = quotient_not_undone;
      zero_positive = refl;
      zero_changes = zero_changes;
      negative_zero_unfit = refl;
      zeros_differ = zeros_differ;
    }

pub real_not_exact : Exact real → ⊥
real_not_exact e = sum_not_associative (e.sum_associative tenth fifth three_tenths)

-- the same three numbers as pairs, with zero beside them
pub real_pairs_not_exact : Exact (pairs real) → ⊥
real_pairs_not_exact e = sum_not_associative (ap (λ x. x.re) (e.sum_associative (pair tenth real.zero) (pair fifth real.zero) (pair three_tenths real.zero)))
