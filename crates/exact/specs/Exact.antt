-- When an arithmetic is exact: its meaning has the laws of a field. Assumes nothing.
use Rattle.std.specs.Prelude.{◌≡◌, true, false}
use Rattle.scalar.specs.Meaning.{Meaning}

-- A number is fit exactly when it is not zero: zero is not fit, and what is not fit is zero.
pub record Exact {X : Type 0} (m : Meaning X) : Type 0 where
  pub sum_associative : (x y z : X) → m.sum (m.sum x y) z ≡ m.sum x (m.sum y z)
  pub sum_commutative : (x y : X) → m.sum x y ≡ m.sum y x
  pub product_associative : (x y z : X) → m.product (m.product x y) z ≡ m.product x (m.product y z)
  pub product_commutative : (x y : X) → m.product x y ≡ m.product y x
  pub product_distributes : (x y z : X) → m.product x (m.sum y z) ≡ m.sum (m.product x y) (m.product x z)
  pub zero_added : (x : X) → m.sum x m.zero ≡ x
  pub difference_undone : (x y : X) → m.sum (m.difference x y) y ≡ x
  pub zero_unfit : m.fit m.zero ≡ false
  pub unfit_zero : (p : X) → m.fit p ≡ false → p ≡ m.zero
  pub quotient_undone : (x p : X) → m.fit p ≡ true → m.product (m.quotient x p) p ≡ x
