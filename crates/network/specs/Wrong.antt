-- What can be wrong with a sheet. Assumes nothing.
use Rattle.std.specs.Prelude.{◌≡◌, ℕ, ◌+◌, ◌*◌, ◌<◌, ◌≤◌, false, ◌⊎◌, List, length, ◌≢◌, slice_index}
use Rattle.refusals.specs.declared.Refusal.{Refusal}
use Rattle.refusals.specs.declared.Refusal.TheVariants.{NetworkCut, ColumnCount, EntryCount, NetworkLength, EntryOutside, EntryNotAfter, OrderLength, OrderSize, OrderNumber}
use Rattle.network.specs.Entries.{after, entry_at}
use Rattle.network.specs.Words.{word, words}

abbrev pub Outside : ℕ → ℕ → ℕ → Type 0
Outside low high x = (x < low) ⊎ (high < x)

-- the refusals that a network sheet gives cause for, each with its cause
pub data NetworkWrong (bytes : List ℕ) : Refusal → Type 0 where
  cut : length bytes < 4 → NetworkWrong bytes (NetworkCut (length bytes))
  columns : Outside 1 512 (word bytes 0) → NetworkWrong bytes (ColumnCount (word bytes 0))
  entries : Outside 1 8192 (word bytes 2) → NetworkWrong bytes (EntryCount (word bytes 2))
  long : (length bytes ≢ 4 + 4 * word bytes 2) → NetworkWrong bytes (NetworkLength (length bytes))
  outside : (t : ℕ) → t < word bytes 2 → (word bytes 0 ≤ (entry_at bytes (word bytes 2) t).row) ⊎ (word bytes 0 ≤ (entry_at bytes (word bytes 2) t).column) → NetworkWrong bytes (EntryOutside t)
  not_after : (t : ℕ) → t + 1 < word bytes 2 → after (entry_at bytes (word bytes 2) (t + 1)) (entry_at bytes (word bytes 2) t) ≡ false → NetworkWrong bytes (EntryNotAfter (t + 1))

-- the number at i is n or more, or stands before in the list
abbrev pub Misnumbered : ℕ → List ℕ → ℕ → Type 0
Misnumbered n xs i = (n ≤ slice_index xs i) ⊎ ((j : ℕ) × (j < i) × (slice_index xs j ≡ slice_index xs i))

-- the refusals that the order sheet of a network of n columns gives cause for
pub data OrderWrong (n : ℕ) (bytes : List ℕ) : Refusal → Type 0 where
  long : (length bytes ≢ 2 + 4 * n) → OrderWrong n bytes (OrderLength (length bytes))
  size : (word bytes 0 ≢ n) → OrderWrong n bytes (OrderSize (word bytes 0))
  row_number : (i : ℕ) → i < n → Misnumbered n (words bytes 2 n) i → OrderWrong n bytes (OrderNumber i)
  column_number : (i : ℕ) → i < n → Misnumbered n (words bytes (2 + 2 * n) n) i → OrderWrong n bytes (OrderNumber (n + i))
