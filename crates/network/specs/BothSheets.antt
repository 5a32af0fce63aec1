-- A network sheet and its order sheet, one after the other. Assumes nothing.
use Rattle.std.specs.Prelude.{◌≡◌, ℕ, ◌⊎◌, List}
use Rattle.network.specs.declared.matrices.Permuted.{Permuted}
use Rattle.refusals.specs.declared.Refusal.{Refusal}
use Rattle.refusals.specs.Checks.{Verdict, bind}
use Rattle.network.specs.NetworkSheet.{network_checked, network_of, pattern}
use Rattle.network.specs.OrderSheet.{order_checked, order_of, orders}
use Rattle.network.specs.Words.{word}
use Rattle.network.specs.Wrong.{NetworkWrong, OrderWrong}

abbrev pub sheets_checked : List ℕ → List ℕ → Verdict
sheets_checked network order = bind (network_checked network) (λ _. order_checked (word network 0) order)

abbrev pub SheetsWrong : List ℕ → List ℕ → Refusal → Type 0
SheetsWrong network order refusal = NetworkWrong network refusal ⊎ OrderWrong (word network 0) order refusal

-- m has every number of both sheets
pub record Told (network order : List ℕ) (m : Permuted) : Type 0 where
  pub network_told : pattern m.network ≡ network_of network
  pub order_told : orders m.order ≡ order_of (word network 0) order
