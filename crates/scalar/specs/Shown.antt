-- How numbers are written. Assumes nothing.
use Rattle.std.specs.Prelude.{ℕ, List, ◌++◌, Some, None, codes, decimal, Option}
use Rattle.scalar.specs.declared.residues.Check.{Check}

abbrev pub check_text : Check → List ℕ
check_text x = decimal x.residue

-- (a, b), where it is known how its parts are written
abbrev pub pair_text : Option (List ℕ) → Option (List ℕ) → Option (List ℕ)
pair_text None b = None
pair_text (Some a) None = None
pair_text (Some a) (Some b) = Some (codes "(" ++ (a ++ (codes ", " ++ (b ++ codes ")"))))
