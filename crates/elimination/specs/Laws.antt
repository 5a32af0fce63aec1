-- The laws of a plan in the subject's words. Assumes nothing.
use Rattle.std.specs.Prelude.{◌≡◌, ℕ, ◌+◌, ◌<◌, ◌≤◌, true, false, ◌⊎◌, List, length, get_or, slice_index, slice_index_or}
use Rattle.network.specs.declared.entries.Entry.{Entry}
use Rattle.network.specs.Entries.{after, origin}
use Rattle.network.specs.NetworkSheet.{Pattern}
use Rattle.network.specs.OrderSheet.{Orders}
use Rattle.network.specs.Permutations.{met, position}
use Rattle.network.specs.Permuted.{permuted}
use Rattle.elimination.specs.Fill.{Places, Filled}
use Rattle.elimination.specs.Plans.{in_column, stored, stored_place, awaited_by, filling, levels_of, sequence_of, wide, cluster_levels_of}

-- S has every entry of B and, with (i, j) and (j, k) where j is below both i and k, also (i, k)
pub record Closed (B S : Places) : Type 0 where
  pub entries : (i k : ℕ) → B i k ≡ true → S i k ≡ true
  pub fills : (i j k : ℕ) → j < i → j < k → S i j ≡ true → S j k ≡ true → S i k ≡ true

-- S is such a set, every place of it is forced, and it is the inductive relation as a test
pub record Smallest (B S : Places) : Type 0 where
  pub closed : Closed B S
  pub forced : (other : Places) → Closed B other → (i k : ℕ) → S i k ≡ true → other i k ≡ true
  pub only_filled : (i k : ℕ) → S i k ≡ true → Filled B i k
  pub all_filled : (i k : ℕ) → Filled B i k → S i k ≡ true

-- column k awaits column j
abbrev pub Awaits : Places → ℕ → ℕ → Type 0
Awaits f k j = (j < k) × (f j k ≡ true)

-- the columns that column k awaits, and no others, rising
pub record AwaitedLaw (f : Places) (k : ℕ) (xs : List ℕ) : Type 0 where
  pub only : (t : ℕ) → t < length xs → Awaits f k (slice_index xs t)
  pub all : (j : ℕ) → Awaits f k j → met j xs ≡ true
  pub rising : (t : ℕ) → t + 1 < length xs → slice_index xs t < slice_index xs (t + 1)

-- the filled places of n columns, and no others, each once, by column, then by row
pub record Listed (f : Places) (n : ℕ) (entries : List Entry) : Type 0 where
  pub stands : (i k : ℕ) → i < n → k < n → f i k ≡ true → (stored_place f n i k < length entries) × (slice_index_or entries (stored_place f n i k) origin ≡ in_column k i)
  pub only : (t : ℕ) → t < length entries → ((get_or entries t origin).row < n) × ((get_or entries t origin).column < n) × (f (get_or entries t origin).row (get_or entries t origin).column ≡ true)
  pub rising : (t : ℕ) → t + 1 < length entries → after (slice_index_or entries (t + 1) origin) (slice_index_or entries t origin) ≡ true

-- the level of each column: above every awaited one, and 0 or one above an awaited one
pub record Levelled (f : Places) (n : ℕ) (levels : List ℕ) : Type 0 where
  pub long : length levels ≡ n
  pub above : (k j : ℕ) → k < n → Awaits f k j → slice_index levels j < slice_index levels k
  pub reached : (k : ℕ) → k < n → (slice_index levels k ≡ 0) ⊎ ((j : ℕ) × Awaits f k j × (slice_index levels k ≡ slice_index levels j + 1))

-- j comes before k: by level, then by number
abbrev pub Before : List ℕ → ℕ → ℕ → Type 0
Before levels j k = (slice_index levels j < slice_index levels k) ⊎ ((slice_index levels j ≡ slice_index levels k) × (j < k))

-- the sequence names each column once, by level and within a level by number
pub record Sequenced (n : ℕ) (levels sequence : List ℕ) : Type 0 where
  pub long : length sequence ≡ n
  pub named : (k : ℕ) → k < n → (position sequence k < n) × (slice_index sequence (position sequence k) ≡ k)
  pub once : (s : ℕ) → s < n → (slice_index sequence s < n) × (position sequence (slice_index sequence s) ≡ s)
  pub rising : (s t : ℕ) → s < t → t < n → Before levels (slice_index sequence s) (slice_index sequence t)

-- levels below c are wide, and level c, if there is one, is not
pub record Clustered (n threshold : ℕ) (levels : List ℕ) (c : ℕ) : Type 0 where
  pub bound : c ≤ n
  pub wide_before : (l : ℕ) → l < c → wide levels threshold l ≡ true
  pub first_narrow : c < n → wide levels threshold c ≡ false

-- what a plan of the network m, its orders o and a threshold keeps
pub record PlanLaw (m : Pattern) (o : Orders) (threshold : ℕ) : Type 0 where
  pub smallest : Smallest (permuted m o) (filling m o)
  pub listed : Listed (filling m o) m.size (stored (filling m o) m.size m.size)
  pub awaited : (k : ℕ) → AwaitedLaw (filling m o) k (awaited_by (filling m o) k)
  pub levelled : Levelled (filling m o) m.size (levels_of (filling m o) m.size)
  pub sequenced : Sequenced m.size (levels_of (filling m o) m.size) (sequence_of (levels_of (filling m o) m.size))
  -- an awaited column stands earlier in the sequence
  pub earlier : (k j : ℕ) → k < m.size → Awaits (filling m o) k j → position (sequence_of (levels_of (filling m o) m.size)) j < position (sequence_of (levels_of (filling m o) m.size)) k
  pub clustered : Clustered m.size threshold (levels_of (filling m o) m.size) (cluster_levels_of (levels_of (filling m o) m.size) threshold)
