-- Check numbers are exact, and −1 is no square among them. Assumes nothing.
use Rattle.std.proofs.Common.{◌≡◌, ℕ, ◌+◌, ◌-◌, ◌*◌, ◌%◌, Bool, true, false, not, eqb, sym, refl, ap, ◌∙◌, add-zero, add_assoc, mod-eq_of_lt, mul_assoc, mul_comm, add_comm, mul-one, mul-add, arith}
use native.Mathlib.Nat.{mod-add-mod, add-mod-mod, add-mod, add-mod_right}
use Rattle.std.proofs.lemmas.Bool.{eqb-true, not-false, agree_below, agree_below_at}
use Rattle.std.proofs.lemmas.Nat.{mul-mod_first, mul-mod_second}
use Rattle.exact.specs.Exact.{Exact}
use Rattle.scalar.specs.Pairs.{pairs}
use Rattle.scalar.specs.Residues.{check_of, product_of, inverse_of, not_zero, check}
use Rattle.scalar.specs.declared.residues.Check.{Check}
use Rattle.scalar.proofs.Inverting.{same_check, inverts}
use Rattle.exact.specs.Squares.{MinusOneNoSquare}
use Rattle.exact.proofs.PairLaws.{pairs_exact}

sum_associative : (x y z : Check) → check.sum (check.sum x y) z ≡ check.sum x (check.sum y z)
sum_associative x y z =
    same_check _ _
    (mod-add-mod (x.residue + y.residue) 251 z.residue ∙ ap (λ (n : ℕ). n % 251) (add_assoc x.residue y.residue z.residue)
    ∙ sym (add-mod-mod x.residue (y.residue + z.residue) 251))

sum_commutative : (x y : Check) → check.sum x y ≡ check.sum y x
sum_commutative x y = ap check_of (add_comm x.residue y.residue)

product_associative : (x y z : Check) → check.product (check.product x y) z ≡ check.product x (check.product y z)
product_associative x y z =
    same_check _ _
    (mul-mod_first (x.residue * y.residue) z.residue 251 ∙ ap (λ (n : ℕ). n % 251) (mul_assoc x.residue y.residue z.residue)
    ∙ sym (mul-mod_second x.residue (y.residue * z.residue) 251))

product_commutative : (x y : Check) → check.product x y ≡ check.product y x
product_commutative x y = ap check_of (mul_comm x.residue y.residue)

product_distributes : (x y z : Check) → check.product x (check.sum y z) ≡ check.sum (check.product x y) (check.product x z)
product_distributes x y z =
    same_check _ _
    (mul-mod_second x.residue (y.residue + z.residue) 251 ∙ ap (λ (n : ℕ). n % 251) (mul-add x.residue y.residue z.residue)
    ∙ add-mod (x.residue * y.residue) (x.residue * z.residue) 251)

zero_added : (x : Check) → check.sum x check.zero ≡ x
zero_added x = same_check _ _ (ap (λ (n : ℕ). n % 251) (add-zero x.residue) ∙ mod-eq_of_lt x.small)

difference_undone : (x y : Check) → check.sum (check.difference x y) y ≡ x
difference_undone x y =
    let whole : x.residue + (251 - y.residue) + y.residue ≡ x.residue + 251 = omega (arith, y.small) in
    same_check _ _
    (mod-add-mod (x.residue + (251 - y.residue)) 251 y.residue ∙ ap (λ (n : ℕ). n % 251) whole ∙ add-mod_right x.residue 251 ∙ mod-eq_of_lt x.small)

unfit_zero : (p : Check) → check.fit p ≡ false → p ≡ check.zero
unfit_zero p unfit = same_check _ _ (eqb-true p.residue 0 (not-false (eqb p.residue 0) unfit))

one_neutral : (x : Check) → product_of x (check_of 1) ≡ x
one_neutral x = same_check _ _ (ap (λ (n : ℕ). n % 251) (mul-one x.residue) ∙ mod-eq_of_lt x.small)

quotient_undone : (x p : Check) → check.fit p ≡ true → check.product (check.quotient x p) p ≡ x
quotient_undone x p fit =
    product_associative x (inverse_of p) p ∙ ap (product_of x) (product_commutative (inverse_of p) p ∙ (inverts p).undoes fit) ∙ one_neutral x

pub check_exact : Exact check
check_exact =
    record {
      sum_associative = sum_associative;
      sum_commutative = sum_commutative;
      product_associative = product_associative;
      product_commutative = product_commutative;
      product_distributes = product_distributes;
      zero_added = zero_added;
      difference_undone = difference_undone;
      zero_unfit = refl;
      unfit_zero = unfit_zero;
      quotient_undone = quotient_undone;
    }

-- n n + 1 is not 0 modulo 251
no_root : ℕ → Bool
no_root n = not (eqb ((n * n % 251 + 1) % 251) 0)

no_roots : agree_below no_root (λ n. true) 251 ≡ true
unfolding no_root
no_roots = refl

pub minus_one_no_square : MinusOneNoSquare check
unfolding no_root
minus_one_no_square x p fit =
    ap (λ (one : Check). not_zero (check.sum (product_of x x) one)) ((inverts p).undoes fit) ∙ agree_below_at no_root (λ n. true) 251 x.residue no_roots x.small

pub check_pairs_exact : Exact (pairs check)
check_pairs_exact = pairs_exact check_exact minus_one_no_square
