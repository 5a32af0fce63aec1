-- What every exact arithmetic has besides its laws. Assumes nothing.
use Rattle.std.specs.Prelude.{◌≡◌, true, ◌≢◌}
use Rattle.scalar.specs.Meaning.{Meaning}

-- Its one is p / p for any fit p: the same number for each, and the product with it changes nothing.
pub record Field {X : Type 0} (m : Meaning X) : Type 0 where
  -- a number is fit exactly when it is not zero
  pub fit_not_zero : (p : X) → m.fit p ≡ true → p ≢ m.zero
  pub not_zero_fit : (p : X) → (p ≢ m.zero) → m.fit p ≡ true
  -- what is added can be taken away again
  pub sum_cancels : (x y z : X) → m.sum x z ≡ m.sum y z → x ≡ y
  pub difference_unique : (x y z : X) → m.sum z y ≡ x → z ≡ m.difference x y
  pub zero_product : (x : X) → m.product x m.zero ≡ m.zero
  pub product_over_difference : (x y z : X) → m.product x (m.difference y z) ≡ m.difference (m.product x y) (m.product x z)
  pub one_same : (p q : X) → m.fit p ≡ true → m.fit q ≡ true → m.quotient p p ≡ m.quotient q q
  pub one_neutral : (x p : X) → m.fit p ≡ true → m.product x (m.quotient p p) ≡ x
  pub product_cancels : (x y p : X) → m.fit p ≡ true → m.product x p ≡ m.product y p → x ≡ y
  pub quotient_unique : (x y p : X) → m.fit p ≡ true → m.product y p ≡ x → y ≡ m.quotient x p
  -- no product of two numbers that are not zero is zero
  pub no_zero_divisors : (x y : X) → m.fit x ≡ true → m.fit y ≡ true → m.fit (m.product x y) ≡ true
