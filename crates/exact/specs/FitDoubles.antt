-- Which doubles are fit, case by case. `fin s m e` is m times 2 to the e, negative where s is true. Assumes nothing.
use Rattle.std.specs.Prelude.{◌≡◌, ℕ, Bool, false, not, ℤ, ◌==◌}
use Rattle.std.specs.Float.{nan, inf, fin}
use Rattle.scalar.specs.Real.{real}

pub record FitDoubles : Type 0 where
  pub not_a_number : real.fit nan ≡ false
  pub infinite : (s : Bool) → real.fit (inf s) ≡ false
  -- a finite one is fit unless it is one of the two zeros
  pub finite : (s : Bool) (m : ℕ) (e : ℤ) → real.fit (fin s m e) ≡ not (m == 0)
