-- A double is fit exactly when it is finite and neither zero. Assumes nothing.
use Rattle.std.proofs.Common.{◌≡◌, ℕ, zero, suc, ◌*◌, ◌<◌, Bool, true, false, not, ◌&&◌, ◌||◌, eqb, ℤ, sym, refl, ap, ◌∙◌, mul-pos, zero-mul, mul-one, arith}
use lib.Ieee.{fin, up, down, level, eq, ne, of_bits}
use lib.Ieee.Fits.{up_pos}
use Rattle.std.specs.Float.{float_is_finite}
use Rattle.std.proofs.lemmas.Bool.{ne_eqb}
use Rattle.scalar.specs.Real.{real}
use Rattle.exact.specs.FitDoubles.{FitDoubles}

absorbed : (x y : Bool) → (y && (x || y)) ≡ y
absorbed true true = refl
absorbed true false = refl
absorbed false true = refl
absorbed false false = refl

level_zero : (s : Bool) (a b : ℕ) → b ≡ 0 → level s a false b ≡ eqb a 0
level_zero s a b none = ap (λ (c : ℕ). level s a false c) none ∙ absorbed _ (eqb a 0)

scaled : (m u : ℕ) → 0 < u → eqb (m * u * 1) 0 ≡ eqb m 0
scaled zero u positive = ap (λ (n : ℕ). eqb n 0) (mul-one (0 * u) ∙ zero-mul u)
scaled (suc m) u positive =
    let above : 0 < suc m * u = mul-pos (omega arith) positive in
    ne_eqb (suc m * u * 1) 0 (λ (is : suc m * u * 1 ≡ 0). omega (arith, mul-one (suc m * u))) ∙ sym (ne_eqb (suc m) 0 (λ (is : suc m ≡ 0). omega arith))

finite_fit : (s : Bool) (m : ℕ) (e : ℤ) → real.fit (fin s m e) ≡ not (eqb m 0)
unfolding float_is_finite ne eq of_bits
finite_fit s m e = ap not (level_zero s (m * up e * 1) (0 * down e) (zero-mul (down e)) ∙ scaled m (up e) (up_pos e))

pub fit_doubles : FitDoubles
unfolding float_is_finite
fit_doubles = record { not_a_number = refl; infinite = λ s. refl; finite = finite_fit }
