-- The awaited columns are those of the filled rows above the diagonal, rising. Assumes nothing.
use Rattle.std.proofs.Common.{◌≡◌, ℕ, ◌+◌, ◌<◌, ◌≤◌, true, length, get_or, arith}
use Rattle.std.proofs.ByRecursion.{All-get_or}
use Rattle.elimination.specs.Fill.{Places}
use Rattle.elimination.specs.Laws.{Awaits, AwaitedLaw}
use Rattle.elimination.specs.Plans.{awaited_by}
use Rattle.elimination.proofs.Levels.{met_awaited}
use Rattle.elimination.proofs.Ordered.{ordered_get_or, kept_rises}
use Rattle.elimination.proofs.Storing.{kept_within}

only : (f : Places) (k t : ℕ) → t < length (awaited_by f k) → Awaits f k (get_or (awaited_by f k) t 0)
only f k t inside =
    let all = All-get_or (λ i. (0 ≤ i) × (i < 0 + k) × (f i k ≡ true)) (awaited_by f k) t 0 inside (kept_within (λ i. f i k) k 0) in
    (omega (arith, all.1), all.2)

pub awaited_law : (f : Places) (k : ℕ) → AwaitedLaw f k (awaited_by f k)
awaited_law f k = record {
  only = only f k;
  all = met_awaited f k;
  rising = λ t inside. ordered_get_or ◌<◌ (awaited_by f k) 0 (kept_rises (λ i. f i k) k) t (t + 1) (omega arith) inside;
}
