-- The filled pattern of a matrix B: where its factors may hold a number. Assumes nothing.
use Rattle.std.specs.Prelude.{◌≡◌, ℕ, zero, suc, ◌<◌, Bool, true, ◌&&◌, ◌||◌, nat_lt}

-- a set of places (i, k), of row i and column k, as a test
abbrev pub Places : Type 0
Places = ℕ → ℕ → Bool

-- the smallest set that holds every entry of B and, with (i, j) and (j, k) where j is below both i and k, also (i, k)
pub data Filled (B : Places) : ℕ → ℕ → Type 0 where
  entry : (i k : ℕ) → B i k ≡ true → Filled B i k
  fill : (i j k : ℕ) → j < i → j < k → Filled B i j → Filled B j k → Filled B i k

-- what is filled of B when only columns below c were eliminated; as a test it computes
abbrev pub filled : Places → ℕ → Places
filled B zero i k = B i k
filled B (suc c) i k = filled B c i k || ((nat_lt c i && nat_lt c k) && (filled B c i c && filled B c c k))
