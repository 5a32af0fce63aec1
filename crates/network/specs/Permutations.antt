-- Lists in which each of 0 to n - 1 stands once. Assumes nothing.
use Rattle.std.specs.Prelude.{◌≡◌, ℕ, suc, ◌<◌, Bool, true, false, cond, not, ◌&&◌, ◌||◌, List, [], ◌∷◌, length, take, ◌==◌, nat_lt, slice_index}

abbrev pub met : ℕ → List ℕ → Bool
met v [] = false
met v (x ∷ xs) = x == v || met v xs

-- the number at i is below n and not met before
abbrev pub in_turn : ℕ → List ℕ → ℕ → Bool
in_turn n xs i = nat_lt (slice_index xs i) n && not (met (slice_index xs i) (take i xs))

-- the first index at which v stands, or the length where it does not
abbrev pub position : List ℕ → ℕ → ℕ
position [] v = 0
position (x ∷ xs) v = cond (x == v) 0 (suc (position xs v))

-- each number is below the length, and none comes twice
abbrev pub Distinct : List ℕ → Type 0
Distinct xs = (i : ℕ) → i < length xs → in_turn (length xs) xs i ≡ true

-- ps has, for each number of xs, the index at which it stands
abbrev pub Inverts : List ℕ → List ℕ → Type 0
Inverts ps xs = (length ps ≡ length xs) × ((i : ℕ) → i < length xs → slice_index ps (slice_index xs i) ≡ i)
