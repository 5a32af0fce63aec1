-- Check numbers: the whole numbers 0 to 250 modulo 251. Assumes nothing.
use Rattle.std.specs.Prelude.{◌≡◌, ℕ, ◌+◌, ◌-◌, ◌*◌, ◌%◌, Bool, true, not, ◌==◌}
use Rattle.std.proofs.Common.{mod-lt, lit<}
use Rattle.scalar.specs.Meaning.{Meaning}
use Rattle.scalar.specs.Inverses.{inverse_in_table}
use Rattle.scalar.specs.declared.residues.Check.{Check}

-- the check number of any number: its remainder by 251
abbrev pub check_of : ℕ → Check
check_of n = record { residue = n % 251; small = mod-lt n (lit< tt) }

abbrev pub product_of : Check → Check → Check
product_of x y = check_of (x.residue * y.residue)

abbrev pub inverse_of : Check → Check
inverse_of p = check_of (inverse_in_table p.residue)

abbrev pub not_zero : Check → Bool
not_zero x = not (x.residue == 0)

-- the quotient by p is the product with the inverse of p
abbrev pub check : Meaning Check
check =
    record {
      zero = check_of 0;
      sum = λ x y. check_of (x.residue + y.residue);
      difference = λ x y. check_of (x.residue + (251 - y.residue));
      product = product_of;
      quotient = λ x p. product_of x (inverse_of p);
      fit = not_zero;
    }

-- q is the inverse of p: where p is not zero, their product is one, and the inverse of zero is zero
pub record Inverse (p q : Check) : Type 0 where
  pub undoes : not_zero p ≡ true → product_of p q ≡ check_of 1
  pub of_zero : p ≡ check_of 0 → q ≡ check_of 0
