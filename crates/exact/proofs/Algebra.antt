-- What follows from the laws of an exact arithmetic. Assumes nothing.
use Rattle.std.proofs.Common.{◌≡◌, true, false, sym, ap, ◌∙◌}
use Rattle.std.proofs.lemmas.Bool.{true_from_ne_false}
use Rattle.scalar.specs.Meaning.{Meaning}
use Rattle.exact.specs.Exact.{Exact}
use Rattle.exact.specs.Field.{Field}

-- zero less x
unfoldable pub negative : {X : Type 0} → Meaning X → X → X
negative m x = m.difference m.zero x

module _ {X : Type 0} {m : Meaning X} (e : Exact m) where
  pub sum_associative : (x y z : X) → m.sum (m.sum x y) z ≡ m.sum x (m.sum y z)
  sum_associative = e.sum_associative

  pub sum_commutative : (x y : X) → m.sum x y ≡ m.sum y x
  sum_commutative = e.sum_commutative

  pub product_associative : (x y z : X) → m.product (m.product x y) z ≡ m.product x (m.product y z)
  product_associative = e.product_associative

  pub product_commutative : (x y : X) → m.product x y ≡ m.product y x
  product_commutative = e.product_commutative

  pub product_distributes : (x y z : X) → m.product x (m.sum y z) ≡ m.sum (m.product x y) (m.product x z)
  product_distributes = e.product_distributes

  pub fit_not_zero : (p : X) → m.fit p ≡ true → p ≡ m.zero → ⊥
  fit_not_zero p fit zero = cc e.zero_unfit

  pub not_zero_fit : (p : X) → (p ≡ m.zero → ⊥) → m.fit p ≡ true
  not_zero_fit p other = true_from_ne_false (m.fit p) (λ unfit. other (e.unfit_zero p unfit))

  pub zero_sum : (x : X) → m.sum m.zero x ≡ x
  zero_sum x = e.sum_commutative m.zero x ∙ e.zero_added x

  pub sum_left_commutative : (x y z : X) → m.sum x (m.sum y z) ≡ m.sum y (m.sum x z)
  sum_left_commutative x y z = cc (e.sum_associative x y z, e.sum_associative y x z, e.sum_commutative x y)

  pub product_left_commutative : (x y z : X) → m.product x (m.product y z) ≡ m.product y (m.product x z)
  product_left_commutative x y z = cc (e.product_associative x y z, e.product_associative y x z, e.product_commutative x y)

  pub product_distributes_right : (x y z : X) → m.product (m.sum x y) z ≡ m.sum (m.product x z) (m.product y z)
  product_distributes_right x y z = cc (e.product_commutative (m.sum x y) z, e.product_distributes z x y, e.product_commutative z x, e.product_commutative z y)

  pub negative_sum : (x : X) → m.sum (negative m x) x ≡ m.zero
  unfolding negative
  negative_sum x = e.difference_undone m.zero x

  pub sum_cancels : (x y z : X) → m.sum x z ≡ m.sum y z → x ≡ y
  sum_cancels x y z same =
      cc (e.zero_added x, e.zero_added y, negative_sum z, e.sum_commutative (negative m z) z, e.sum_associative x z (negative m z), e.sum_associative y z (negative m z))

  pub difference_unique : (x y z : X) → m.sum z y ≡ x → z ≡ m.difference x y
  difference_unique x y z is = sum_cancels z (m.difference x y) y (is ∙ sym (e.difference_undone x y))

  pub difference_negative : (x y : X) → m.difference x y ≡ m.sum x (negative m y)
  difference_negative x y = sym (difference_unique x y (m.sum x (negative m y)) (cc (e.sum_associative x (negative m y) y, negative_sum y, e.zero_added x)))

  pub zero_product : (x : X) → m.product x m.zero ≡ m.zero
  zero_product x = sum_cancels (m.product x m.zero) m.zero (m.product x m.zero) (cc (e.product_distributes x m.zero m.zero, e.zero_added m.zero, zero_sum (m.product x m.zero)))

  negative_unique : (x z : X) → m.sum z x ≡ m.zero → z ≡ negative m x
  negative_unique x z is = sum_cancels z (negative m x) x (is ∙ sym (negative_sum x))

  pub product_negative : (x y : X) → m.product x (negative m y) ≡ negative m (m.product x y)
  product_negative x y = negative_unique (m.product x y) (m.product x (negative m y)) (cc (e.product_distributes x (negative m y) y, negative_sum y, zero_product x))

  pub negative_product : (x y : X) → m.product (negative m x) y ≡ negative m (m.product x y)
  negative_product x y = cc (e.product_commutative (negative m x) y, product_negative y x, e.product_commutative y x)

  pub negative_of_sum : (x y : X) → negative m (m.sum x y) ≡ m.sum (negative m x) (negative m y)
  negative_of_sum x y =
      sym (negative_unique (m.sum x y) (m.sum (negative m x) (negative m y))
      (cc (e.sum_associative (negative m x) (negative m y) (m.sum x y), sum_left_commutative (negative m y) x y, negative_sum y, e.zero_added x, negative_sum x)))

  pub negative_negative : (x : X) → negative m (negative m x) ≡ x
  negative_negative x = sym (negative_unique (negative m x) x (e.sum_commutative x (negative m x) ∙ negative_sum x))

  pub product_over_difference : (x y z : X) → m.product x (m.difference y z) ≡ m.difference (m.product x y) (m.product x z)
  product_over_difference x y z =
      difference_unique (m.product x y) (m.product x z) (m.product x (m.difference y z)) (sym (e.product_distributes x (m.difference y z) z) ∙ ap (m.product x) (e.difference_undone y z))

  pub one_neutral : (x p : X) → m.fit p ≡ true → m.product x (m.quotient p p) ≡ x
  one_neutral x p fit =
      cc (e.quotient_undone x p fit, e.product_associative (m.quotient x p) p (m.quotient p p), e.product_commutative p (m.quotient p p), e.quotient_undone p p fit)

  pub one_same : (p q : X) → m.fit p ≡ true → m.fit q ≡ true → m.quotient p p ≡ m.quotient q q
  one_same p q fit fit' = cc (one_neutral (m.quotient p p) q fit', one_neutral (m.quotient q q) p fit, e.product_commutative (m.quotient p p) (m.quotient q q))

  -- one divided by p undoes the product with p
  divided : (x p : X) → m.fit p ≡ true → m.product (m.product x p) (m.quotient (m.quotient p p) p) ≡ x
  divided x p fit =
      let r = m.quotient (m.quotient p p) p in
      cc (e.product_associative x p r, e.product_commutative p r, e.quotient_undone (m.quotient p p) p fit, one_neutral x p fit)

  pub product_cancels : (x y p : X) → m.fit p ≡ true → m.product x p ≡ m.product y p → x ≡ y
  product_cancels x y p fit same = sym (divided x p fit) ∙ ap (λ (z : X). m.product z (m.quotient (m.quotient p p) p)) same ∙ divided y p fit

  pub quotient_unique : (x y p : X) → m.fit p ≡ true → m.product y p ≡ x → y ≡ m.quotient x p
  quotient_unique x y p fit is = product_cancels y (m.quotient x p) p fit (is ∙ sym (e.quotient_undone x p fit))

  pub no_zero_divisors : (x y : X) → m.fit x ≡ true → m.fit y ≡ true → m.fit (m.product x y) ≡ true
  no_zero_divisors x y fit fit' =
      true_from_ne_false (m.fit (m.product x y))
      (λ (unfit : m.fit (m.product x y) ≡ false).
      let x_zero : x ≡ m.zero = product_cancels x m.zero y fit' (e.unfit_zero (m.product x y) unfit ∙ sym (e.product_commutative m.zero y ∙ zero_product y)) in
      fit_not_zero x fit x_zero)

  pub field : Field m
  field =
      record {
        fit_not_zero = fit_not_zero;
        not_zero_fit = not_zero_fit;
        sum_cancels = sum_cancels;
        difference_unique = difference_unique;
        zero_product = zero_product;
        product_over_difference = product_over_difference;
        one_same = one_same;
        one_neutral = one_neutral;
        product_cancels = product_cancels;
        quotient_unique = quotient_unique;
        no_zero_divisors = no_zero_divisors;
      }

-- Opens products of sums and differences, and puts sums and products in one order. `simp (ring, e)` shows an equation of commutative rings in which no two terms cancel.
pub ruleset ring = (
  difference_negative,
  product_distributes,
  product_distributes_right,
  product_negative,
  negative_product,
  negative_of_sum,
  negative_negative,
  sum_associative,
  sum_commutative,
  sum_left_commutative,
  product_associative,
  product_commutative,
  product_left_commutative,
)
