-- Marks of one column, as the rows of another are added to them. Assumes nothing.
use Rattle.std.proofs.Common.{◌≡◌, ℕ, ◌+◌, ◌<◌, ◌≤◌, Bool, true, false, ◌&&◌, ◌||◌, ltb, List, length, get_or, take, set, arith}
use Rattle.std.proofs.lemmas.Bool.Decides.{nat_tests}
use Rattle.std.proofs.lemmas.Grind.{common_steps}
use Rattle.network.specs.Permutations.{met}
use Rattle.network.proofs.Permuting.{met_more}

-- the rows of a list that lie below j, added to what was marked
abbrev pub Spread : ℕ → List ℕ → List Bool → List Bool → Type 0
Spread j rows old marks = (i : ℕ) → i < length old → get_or marks i false ≡ (get_or old i false || (ltb j i && met i rows))

module _ (j : ℕ) (rows : List ℕ) (old marks : List Bool) (t x : ℕ) (more : t < length rows) (is : x ≡ get_or rows t 0) (so_far : Spread j (take t rows) old marks) where
  pub spread_marks : j < x → x < length marks → Spread j (take (t + 1) rows) old (set marks x true)
  spread_marks below inside i h =
      let step = met_more i t rows more in
      let before = so_far i h in
      grind (arith, nat_tests, common_steps)

  pub spread_skips : x ≤ j → Spread j (take (t + 1) rows) old marks
  spread_skips above i h =
      let step = met_more i t rows more in
      let before = so_far i h in
      grind (arith, nat_tests)
