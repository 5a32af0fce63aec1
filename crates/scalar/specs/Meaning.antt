-- What an arithmetic means: one fixed number, four functions of two numbers and one yes or no of one number.
-- Every later rule is written over a meaning, so it holds for each kind of number. Assumes nothing.
use Rattle.std.specs.Prelude.{Bool}

pub record Meaning (X : Type 0) : Type 0 where
  pub zero : X
  pub sum : X → X → X
  pub difference : X → X → X
  pub product : X → X → X
  pub quotient : X → X → X
  -- whether a number may stand as a pivot
  pub fit : X → Bool
