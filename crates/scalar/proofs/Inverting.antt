-- Check numbers are the same when their remainders are, and the table has every inverse. Assumes nothing.
use Rattle.std.proofs.Common.{◌≡◌, ℕ, ◌*◌, ◌%◌, ◌<◌, Bool, true, not, eqb, refl, ap, ◌∙◌}
use mathlib.Core.HLevel.{is_prop→PathP}
use native.Mathlib.Bridge.{le_prop}
use Rattle.std.proofs.lemmas.Bool.{eqb-true, agree_below, agree_below_at}
use Rattle.scalar.specs.declared.residues.Check.{Check}
use Rattle.scalar.specs.Inverses.{inverse_in_table}
use Rattle.scalar.specs.Residues.{check_of, inverse_of, not_zero, product_of, Inverse}

pub same_check : (x y : Check) → x.residue ≡ y.residue → x ≡ y
same_check x y same = λ i. record { residue = same i; small = is_prop→PathP (λ j. same j < 251) (λ j. le_prop) x.small y.small i }

-- whether the table's entry at p is its inverse
inverted : ℕ → Bool
inverted p = eqb (p * (inverse_in_table p % 251) % 251) 1

all_but_zero_inverted : agree_below inverted (λ q. not (eqb q 0)) 251 ≡ true
unfolding inverted
all_but_zero_inverted = refl

undone : (p : Check) → not_zero p ≡ true → product_of p (inverse_of p) ≡ check_of 1
unfolding inverted
undone p other = same_check _ _ (eqb-true _ _ (agree_below_at inverted (λ q. not (eqb q 0)) 251 p.residue all_but_zero_inverted p.small ∙ other))

pub inverts : (p : Check) → Inverse p (inverse_of p)
inverts p = record { undoes = undone p; of_zero = λ zero. ap inverse_of zero }
