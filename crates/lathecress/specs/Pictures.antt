-- How a place of the pattern is drawn. Assumes nothing.
use Rattle.std.specs.Prelude.{ℕ, Bool, true, false}

-- 'x' and '.'
abbrev pub sign_of : Bool → ℕ
sign_of true = 120
sign_of false = 46
