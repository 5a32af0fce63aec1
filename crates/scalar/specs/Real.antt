-- Real numbers as a station computer has them: IEEE 754's double, by the language's own definitions.
-- `add`, `sub`, `mul` and `div` work out the exact result and round it once, to the nearest double and at a tie to the even one.
-- There is one not-a-number, and the two zeros differ. Assumes nothing.
use Rattle.std.specs.Prelude.{Bool, ◌&&◌, from_bits, Float}
use Rattle.std.specs.Float.Ieee.{add, sub, mul, div, ne}
use Rattle.std.specs.Float.{float_is_finite, binary64}
use Rattle.scalar.specs.Meaning.{Meaning}

-- the double whose bits are all 0
abbrev pub positive_zero : Float
positive_zero = from_bits binary64 0

-- finite, and not zero: `ne` tells no zero from the other
abbrev pub finite_nonzero : Float → Bool
finite_nonzero x = float_is_finite x && ne x positive_zero

abbrev pub real : Meaning Float
real =
    record {
      zero = positive_zero;
      sum = add binary64;
      difference = sub binary64;
      product = mul binary64;
      quotient = div binary64;
      fit = finite_nonzero;
    }
