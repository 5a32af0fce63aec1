-- The permuted matrix B: at (i, k) it has the network's entry at (p(i), q(k)). Assumes nothing.
use Rattle.std.specs.Prelude.{◌≡◌, ℕ, ◌*◌, ◌/◌, ◌%◌, ◌<◌, Bool, true, false, cond, ◌&&◌, ◌||◌, List, [], ◌∷◌, map, length, Some, None, Option, ◌==◌, ◌≢◌, nat_lt, slice_index, slice_index_or}
use Rattle.std.specs.List.{range_with_len}
use Rattle.network.specs.declared.entries.Entry.{Entry}
use Rattle.network.specs.Entries.{origin}
use Rattle.network.specs.NetworkSheet.{Pattern}
use Rattle.network.specs.OrderSheet.{Orders}
use Rattle.network.specs.Permutations.{position}

-- whether one of the entries stands at row r and column c
abbrev pub has_entry : List Entry → ℕ → ℕ → Bool
has_entry [] r c = false
has_entry (x ∷ xs) r c = (x.row == r && x.column == c) || has_entry xs r c

-- whether B has an entry at (i, k)
abbrev pub permuted : Pattern → Orders → ℕ → ℕ → Bool
permuted m o i k = (nat_lt i m.size && nat_lt k m.size) && has_entry m.entries (slice_index o.rows i) (slice_index o.columns k)

-- where the network's entry x stands in B
abbrev pub placed : Orders → Entry → Entry
placed o x = record { row = position o.rows x.row; column = position o.columns x.column }

-- the same, if x lies inside
abbrev pub place_in : ℕ → Orders → Entry → Option Entry
place_in n o x = cond (nat_lt x.row n && nat_lt x.column n) (Some (placed o x)) None

-- entry t of the sheet, where it stands in B
abbrev pub placed_at : Pattern → Orders → ℕ → Entry
placed_at m o t = placed o (slice_index_or m.entries t origin)

-- the same, if there is such an entry
abbrev pub place_told : Pattern → Orders → ℕ → Option Entry
place_told m o t = cond (nat_lt t (length m.entries)) (Some (placed_at m o t)) None

-- the sheet's entries and B's are the same ones, each once
pub record OneToOne (m : Pattern) (o : Orders) : Type 0 where
  pub in_B : (t : ℕ) → t < length m.entries → permuted m o (placed_at m o t).row (placed_at m o t).column ≡ true
  pub from_sheet : (i k : ℕ) → permuted m o i k ≡ true → (t : ℕ) × (t < length m.entries) × ((placed_at m o t).row ≡ i) × ((placed_at m o t).column ≡ k)
  pub apart : (s t : ℕ) → s < t → t < length m.entries → placed_at m o s ≢ placed_at m o t

-- B row by row: what stands at i * n + k is whether it has an entry at (i, k)
abbrev pub marks_of : Pattern → Orders → List Bool
marks_of m o = map (λ j. permuted m o (j / m.size) (j % m.size)) (range_with_len 0 (m.size * m.size))
