-- Doubles at which laws of an exact arithmetic fail: each law but that sum and product are commutative and that zero is not fit. `fin s m e` is m times 2 to the e, negative where s is true. Assumes nothing.
use Rattle.std.specs.Prelude.{◌≡◌, true, false, ◌&&◌, pos, negsuc, Float}
use Rattle.std.specs.Float.{fin, binary64}
use Rattle.std.specs.Float.Ieee.{fits}
use Rattle.scalar.specs.Real.{real}

-- the doubles nearest to 0.1, 0.2 and 0.3
abbrev pub tenth : Float
tenth = fin false 3602879701896397 (negsuc 54)

abbrev pub fifth : Float
fifth = fin false 3602879701896397 (negsuc 53)

abbrev pub three_tenths : Float
three_tenths = fin false 5404319552844595 (negsuc 53)

abbrev pub one : Float
one = fin false 1 (pos 0)

abbrev pub forty_nine : Float
forty_nine = fin false 49 (pos 0)

-- 2 to the 60
abbrev pub huge : Float
huge = fin false 1 (pos 60)

abbrev pub negative_zero : Float
negative_zero = fin true 0 (pos 0)

pub record Rounds : Type 0 where
  -- they are all doubles
  pub doubles : (fits binary64 tenth && fits binary64 fifth && fits binary64 three_tenths && fits binary64 one && fits binary64 forty_nine && fits binary64 huge && fits binary64 negative_zero) ≡ true
  -- which two are added or multiplied first matters
  pub sum_not_associative : real.sum (real.sum tenth fifth) three_tenths ≡ real.sum tenth (real.sum fifth three_tenths) → ⊥
  pub product_not_associative : real.product (real.product tenth fifth) three_tenths ≡ real.product tenth (real.product fifth three_tenths) → ⊥
  pub product_not_distributes : real.product three_tenths (real.sum tenth fifth) ≡ real.sum (real.product three_tenths tenth) (real.product three_tenths fifth) → ⊥
  -- 1 less 2 to the 60 is rounded to −2 to the 60
  pub difference_not_undone : real.sum (real.difference one huge) huge ≡ one → ⊥
  pub divisor_fit : real.fit forty_nine ≡ true
  pub quotient_not_undone : real.product (real.quotient one forty_nine) forty_nine ≡ one → ⊥
  -- zero is the positive one
  pub zero_positive : real.zero ≡ fin false 0 (pos 0)
  -- zero added changes the sign of the other zero
  pub zero_changes : real.sum negative_zero real.zero ≡ negative_zero → ⊥
  -- the other zero is not fit and is not zero
  pub negative_zero_unfit : real.fit negative_zero ≡ false
  pub zeros_differ : negative_zero ≡ real.zero → ⊥
