-- When pairs over an exact arithmetic are exact too. Assumes nothing.
use Rattle.std.specs.Prelude.{◌≡◌, true}
use Rattle.scalar.specs.Meaning.{Meaning}

-- −1 is no square: x times x, plus one, is never zero
abbrev pub MinusOneNoSquare : {X : Type 0} → Meaning X → Type 0
MinusOneNoSquare {X} m = (x p : X) → m.fit p ≡ true → m.fit (m.sum (m.product x x) (m.quotient p p)) ≡ true
