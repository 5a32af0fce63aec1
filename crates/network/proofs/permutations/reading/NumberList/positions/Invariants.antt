use Rattle.std.proofs.Common.{◌≡◌, ℕ, ◌<◌, length, get_or, vec_items}
use Rattle.network.proofs.permutations.reading.NumberList.positions.Given as goal

abbrev pub invariant-loop-i : goal.invariant-loop-i
invariant-loop-i l = (length (vec_items l.positions) ≡ length l.numbers) × ((j : ℕ) → j < l.i → get_or (vec_items l.positions) (get_or l.numbers j 0) 0 ≡ j)
