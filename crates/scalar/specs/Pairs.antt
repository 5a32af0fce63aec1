-- Pairs (a, b) that stand for a + bi, over any arithmetic. Assumes nothing.
use Rattle.scalar.specs.Meaning.{Meaning}
use Rattle.scalar.specs.declared.pairs.Pair.{Pair}

-- the pair (a, b)
abbrev pub pair : {X : Type 0} → X → X → Pair X
pair a b = record { re = a; im = b }

-- cc + dd for (c, d), the square of its magnitude
abbrev pub magnitude_squared : {X : Type 0} → Meaning X → Pair X → X
magnitude_squared m y = m.sum (m.product y.re y.re) (m.product y.im y.im)

abbrev pub pairs : {X : Type 0} → Meaning X → Meaning (Pair X)
pairs m =
    record {
      zero = pair m.zero m.zero;
      sum = λ x y. pair (m.sum x.re y.re) (m.sum x.im y.im);
      difference = λ x y. pair (m.difference x.re y.re) (m.difference x.im y.im);
      product = λ x y.
          pair
          (m.difference (m.product x.re y.re) (m.product x.im y.im))
          (m.sum (m.product x.re y.im) (m.product x.im y.re));
      quotient = λ x y.
          pair
          (m.quotient (m.sum (m.product x.re y.re) (m.product x.im y.im)) (magnitude_squared m y))
          (m.quotient (m.difference (m.product x.im y.re) (m.product x.re y.im)) (magnitude_squared m y));
      fit = λ y. m.fit (magnitude_squared m y);
    }
