-- The answer to whether an arithmetic is exact. Assumes nothing.
use Rattle.std.specs.Prelude.{Bool, true, false}
use Rattle.scalar.specs.Meaning.{Meaning}
use Rattle.exact.specs.Exact.{Exact}

-- yes says that it is exact, and no that it is not
abbrev pub TellsExact : {X : Type 0} → Meaning X → Bool → Type 0
TellsExact m true = Exact m
TellsExact m false = Exact m → ⊥
