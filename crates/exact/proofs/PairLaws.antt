-- Pairs over an exact arithmetic in which −1 is no square are exact. Assumes nothing.
use Rattle.std.proofs.Common.{◌≡◌, true, false, sym}
use Rattle.std.proofs.lemmas.Bool.{false_from_ne_true}
use Rattle.scalar.specs.Meaning.{Meaning}
use Rattle.exact.specs.Exact.{Exact}
use Rattle.scalar.specs.Pairs.{pair, magnitude_squared, pairs}
use Rattle.scalar.specs.declared.pairs.Pair.{Pair}
use Rattle.exact.specs.Squares.{MinusOneNoSquare}
use Rattle.exact.proofs.Algebra.{ring, product_distributes_right, difference_unique, zero_product, product_cancels, no_zero_divisors, one_neutral}

same_pair : {X : Type 0} {a b c d : X} → a ≡ c → b ≡ d → pair a b ≡ pair c d
same_pair p q = λ i. pair (p i) (q i)

module _ {X : Type 0} {m : Meaning X} (e : Exact m) where
  product_associative : (x y z : Pair X) → (pairs m).product ((pairs m).product x y) z ≡ (pairs m).product x ((pairs m).product y z)
  product_associative x y z = same_pair (simp (ring, e)) (simp (ring, e))

  product_commutative : (x y : Pair X) → (pairs m).product x y ≡ (pairs m).product y x
  product_commutative x y = same_pair (simp (ring, e)) (simp (ring, e))

  product_distributes : (x y z : Pair X) → (pairs m).product x ((pairs m).sum y z) ≡ (pairs m).sum ((pairs m).product x y) ((pairs m).product x z)
  product_distributes x y z = same_pair (simp (ring, e)) (simp (ring, e))

  -- the products with w fall out
  fall_out : (u v w : X) → m.difference (m.sum u w) (m.difference w v) ≡ m.sum u v
  fall_out u v w = sym (difference_unique e (m.sum u w) (m.difference w v) (m.sum u v) (cc (e.sum_associative u v (m.difference w v), e.sum_commutative v (m.difference w v), e.difference_undone w v)))

  fall_out' : (u v w : X) → m.sum (m.sum w v) (m.difference u w) ≡ m.sum u v
  fall_out' u v w = cc (e.sum_commutative w v, e.sum_associative v w (m.difference u w), e.sum_commutative w (m.difference u w), e.difference_undone u w, e.sum_commutative v u)

  first_part : (a b c d : X) → m.difference (m.product (m.sum (m.product a c) (m.product b d)) c) (m.product (m.difference (m.product b c) (m.product a d)) d) ≡ m.product a (m.sum (m.product c c) (m.product d d))
  first_part a b c d =
      let u = m.product a (m.product c c) in
      let v = m.product a (m.product d d) in
      let w = m.product b (m.product c d) in
      let left : m.product (m.sum (m.product a c) (m.product b d)) c ≡ m.sum u w = simp (ring, e) in
      let right : m.product (m.difference (m.product b c) (m.product a d)) d ≡ m.difference w v = simp (ring, e) in
      cc (left, right, fall_out u v w, e.product_distributes a (m.product c c) (m.product d d))

  second_part : (a b c d : X) → m.sum (m.product (m.sum (m.product a c) (m.product b d)) d) (m.product (m.difference (m.product b c) (m.product a d)) c) ≡ m.product b (m.sum (m.product c c) (m.product d d))
  second_part a b c d =
      let u = m.product b (m.product c c) in
      let v = m.product b (m.product d d) in
      let w = m.product a (m.product c d) in
      let left : m.product (m.sum (m.product a c) (m.product b d)) d ≡ m.sum w v = simp (ring, e) in
      let right : m.product (m.difference (m.product b c) (m.product a d)) c ≡ m.difference u w = simp (ring, e) in
      cc (left, right, fall_out' u v w, e.product_distributes b (m.product c c) (m.product d d))

  -- a quotient by s times c, less or plus one times d, all times s
  less_times : (q r c d s : X) → m.product (m.difference (m.product q c) (m.product r d)) s ≡ m.difference (m.product (m.product q s) c) (m.product (m.product r s) d)
  less_times q r c d s = simp (ring, e)

  plus_times : (q r c d s : X) → m.product (m.sum (m.product q d) (m.product r c)) s ≡ m.sum (m.product (m.product q s) d) (m.product (m.product r s) c)
  plus_times q r c d s = simp (ring, e)

  quotient_undone : (x p : Pair X) → (pairs m).fit p ≡ true → (pairs m).product ((pairs m).quotient x p) p ≡ x
  quotient_undone x p fit =
      let a = x.re in
      let b = x.im in
      let c = p.re in
      let d = p.im in
      let s = magnitude_squared m p in
      let top = m.sum (m.product a c) (m.product b d) in
      let low = m.difference (m.product b c) (m.product a d) in
      let q = m.quotient top s in
      let r = m.quotient low s in
      same_pair
      (product_cancels e (m.difference (m.product q c) (m.product r d)) a s fit
      (cc (less_times q r c d s, e.quotient_undone top s fit, e.quotient_undone low s fit, first_part a b c d)))
      (product_cancels e (m.sum (m.product q d) (m.product r c)) b s fit
      (cc (plus_times q r c d s, e.quotient_undone top s fit, e.quotient_undone low s fit, second_part a b c d)))

  squares_times : (r d : X) → m.product (m.product r r) (m.product d d) ≡ m.product (m.product r d) (m.product r d)
  squares_times r d = simp (ring, e)

  -- c c + d d is (c / d times c / d, plus one) times d d
  square_shared : (c d : X) → m.fit d ≡ true
      → m.product (m.sum (m.product (m.quotient c d) (m.quotient c d)) (m.quotient d d)) (m.product d d) ≡ m.sum (m.product c c) (m.product d d)
  square_shared c d fit =
      let r = m.quotient c d in
      cc (product_distributes_right e (m.product r r) (m.quotient d d) (m.product d d), squares_times r d, e.quotient_undone c d fit, e.product_commutative (m.quotient d d) (m.product d d), one_neutral e (m.product d d) d fit)

  second_unfit : MinusOneNoSquare m → (c d : X) → m.fit (m.sum (m.product c c) (m.product d d)) ≡ false → m.fit d ≡ false
  second_unfit no-square c d unfit =
      let r = m.quotient c d in
      false_from_ne_true (m.fit d)
      (λ (fit : m.fit d ≡ true).
      let sound = no_zero_divisors e (m.sum (m.product r r) (m.quotient d d)) (m.product d d) (no-square r d fit) (no_zero_divisors e d d fit fit) in
      cc (square_shared c d fit, sound))

  first_unfit : (c d : X) → d ≡ m.zero → m.fit (m.sum (m.product c c) (m.product d d)) ≡ false → m.fit c ≡ false
  first_unfit c d zero unfit =
      false_from_ne_true (m.fit c) (λ (fit : m.fit c ≡ true). cc (zero_product e m.zero, e.zero_added (m.product c c), no_zero_divisors e c c fit fit))

  unfit_zero : MinusOneNoSquare m → (p : Pair X) → (pairs m).fit p ≡ false → p ≡ (pairs m).zero
  unfit_zero no-square p unfit =
      let second = e.unfit_zero p.im (second_unfit no-square p.re p.im unfit) in
      same_pair (e.unfit_zero p.re (first_unfit p.re p.im second unfit)) second

  pub pairs_exact : MinusOneNoSquare m → Exact (pairs m)
  pairs_exact no-square =
      record {
        sum_associative = λ x y z. same_pair (e.sum_associative x.re y.re z.re) (e.sum_associative x.im y.im z.im);
        sum_commutative = λ x y. same_pair (e.sum_commutative x.re y.re) (e.sum_commutative x.im y.im);
        product_associative = product_associative;
        product_commutative = product_commutative;
        product_distributes = product_distributes;
        zero_added = λ x. same_pair (e.zero_added x.re) (e.zero_added x.im);
        difference_undone = λ x y. same_pair (e.difference_undone x.re y.re) (e.difference_undone x.im y.im);
        zero_unfit = cc (zero_product e m.zero, e.zero_added m.zero, e.zero_unfit);
        unfit_zero = unfit_zero no-square;
        quotient_undone = quotient_undone;
      }
