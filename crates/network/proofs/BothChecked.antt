-- The checks of both sheets, where those of the network sheet passed. Assumes nothing.
use Rattle.std.proofs.Common.{◌≡◌, ℕ, List, length, Ok, vec_items, ap, sym, ◌∙◌}
use Rattle.refusals.specs.Checks.{Verdict, passed, bind, Passes}
use Rattle.refusals.proofs.Checking.{passes_held}
use Rattle.network.specs.declared.matrices.Permuted.{Permuted}
use Rattle.network.specs.declared.networks.Network.{Network}
use Rattle.network.specs.declared.networks.reading.NetworkSheet.{NetworkSheet}
use Rattle.network.specs.declared.orders.Order.{Order}
use Rattle.network.specs.BothSheets.{sheets_checked, Told}
use Rattle.network.specs.NetworkSheet.{network_checked, network_of, pattern}
use Rattle.network.specs.OrderSheet.{order_checked, order_of, orders}
use Rattle.network.specs.Words.{word}
use Rattle.network.proofs.NetworkFacts.{head_passed}
use Rattle.network.proofs.OrderSteps.{length_words}

-- size is what the checked sheet calls n
module _ (network order : List ℕ) (checked : NetworkSheet) (size : ℕ)
    (held : Passes (network_checked network) (λ s. s.head.sheet.now ≡ network) (Ok checked)) (is : size ≡ checked.head.n) where
  both : (network_checked network ≡ passed) × (checked.head.sheet.now ≡ network)
  both = passes_held _ (λ s. s.head.sheet.now ≡ network) checked held

  size_is : size ≡ word network 0
  size_is =
      is ∙ ap (λ (x : ℕ × ℕ). x.0) (head_passed checked.head.sheet.now checked.head.n checked.head.e checked.head.checked).told
      ∙ ap (λ (bytes : List ℕ). word bytes 0) both.1

  -- what is said of the order sheet is said of both
  pub order_says : (v : Verdict) → order_checked size order ≡ v → sheets_checked network order ≡ v
  order_says v says =
      ap (λ (w : Verdict). bind w (λ _. order_checked (word network 0) order)) both.0
      ∙ ap (λ (n : ℕ). order_checked n order) (sym size_is) ∙ says

  pub told : (m : Permuted) → pattern m.network ≡ network_of checked.head.sheet.now → orders m.order ≡ order_of size order → Told network order m
  told m network_read order_read = record {
    network_told = network_read ∙ ap network_of both.1;
    order_told = order_read ∙ ap (λ (n : ℕ). order_of n order) size_is;
  }

  pub same_size : (m : Network) (o : Order) → pattern m ≡ network_of checked.head.sheet.now → orders o ≡ order_of size order → length (vec_items o.rows.numbers) ≡ m.n
  same_size m o network_read order_read =
      ap (λ r. length r.rows) (order_read ∙ ap (λ (n : ℕ). order_of n order) size_is)
      ∙ length_words order 2 (word network 0)
      ∙ sym (ap (λ p. p.size) (network_read ∙ ap network_of both.1))
