-- The worked networks, from the bytes of their sheets on, by the definitions that the contracts cite. Assumes nothing.
use Rattle.std.specs.Prelude.{◌≡◌, true, false, List, [], ◌∷◌, ◌++◌, ℕ, ◌/◌, ◌%◌}
use Rattle.network.specs.declared.entries.Entry.{Entry}
use Rattle.network.specs.BothSheets.{sheets_checked}
use Rattle.network.specs.NetworkSheet.{network_of}
use Rattle.network.specs.OrderSheet.{order_of}
use Rattle.network.specs.Permuted.{marks_of}
use Rattle.refusals.specs.Checks.{passed}

-- numbers as a sheet has them
abbrev sheet : List ℕ → List ℕ
sheet [] = []
sheet (x ∷ xs) = x % 256 ∷ x / 256 ∷ sheet xs

abbrev pub worked_network : List ℕ
worked_network = sheet (4 ∷ 10 ∷ 0 ∷ 2 ∷ 1 ∷ 3 ∷ 0 ∷ 2 ∷ 3 ∷ 0 ∷ 1 ∷ 3 ∷ 0 ∷ 0 ∷ 1 ∷ 1 ∷ 2 ∷ 2 ∷ 2 ∷ 3 ∷ 3 ∷ 3 ∷ [])

abbrev pub plain_order : List ℕ
plain_order = sheet (4 ∷ 0 ∷ 1 ∷ 2 ∷ 3 ∷ 0 ∷ 1 ∷ 2 ∷ 3 ∷ [])

abbrev entry : ℕ → ℕ → Entry
entry r c = record { row = r; column = c }

-- both sheets are in order and tell this, and the permuted matrix has its entries at these places, row by row
pub record WorkedNetwork : Type 0 where
  pub in_order : sheets_checked worked_network plain_order ≡ passed
  pub told : network_of worked_network ≡ record { size = 4; entries = entry 0 0 ∷ entry 2 0 ∷ entry 1 1 ∷ entry 3 1 ∷ entry 0 2 ∷ entry 2 2 ∷ entry 3 2 ∷ entry 0 3 ∷ entry 1 3 ∷ entry 3 3 ∷ [] }
  pub ordered : order_of 4 plain_order ≡ record { rows = 0 ∷ 1 ∷ 2 ∷ 3 ∷ []; columns = 0 ∷ 1 ∷ 2 ∷ 3 ∷ [] }
  pub pattern : marks_of (network_of worked_network) (order_of 4 plain_order)
      ≡ (true ∷ false ∷ true ∷ true ∷ []) ++ (false ∷ true ∷ false ∷ true ∷ []) ++ (true ∷ false ∷ true ∷ false ∷ []) ++ (false ∷ true ∷ true ∷ true ∷ [])
