-- What a plan keeps holds of every network, its orders and a threshold. Assumes nothing.
use Rattle.std.proofs.Common.{◌≡◌, ℕ, ◌<◌, ◌≤◌, true, ◌&&◌, ltb, List, length, get_or, sym, ap, ◌∙◌, subst, ⊎_elim, arith}
use Rattle.std.proofs.lemmas.Bool.{cases_eq, cases_lt, ltb-true, and_parts}
use Rattle.network.specs.NetworkSheet.{Pattern}
use Rattle.network.specs.OrderSheet.{Orders}
use Rattle.network.specs.Permutations.{position}
use Rattle.network.specs.Permuted.{has_entry, permuted}
use Rattle.elimination.specs.Fill.{Places}
use Rattle.elimination.specs.Laws.{Smallest, Awaits, Before, Sequenced, Clustered, PlanLaw}
use Rattle.elimination.specs.Plans.{filling, levels_of, sequence_of, cluster_levels_of}
use Rattle.elimination.proofs.Awaited.{awaited_law}
use Rattle.elimination.proofs.Clusters.{clustered}
use Rattle.elimination.proofs.Filling.{smallest}
use Rattle.elimination.proofs.Levels.{levels_long, levelled, level_below}
use Rattle.elimination.proofs.Listing.{listed}
use Rattle.elimination.proofs.Sequencing.{sequenced}

-- B has no entry outside
pub permuted_inside : (m : Pattern) (o : Orders) (i k : ℕ) → permuted m o i k ≡ true → (i < m.size) × (k < m.size)
permuted_inside m o i k on =
    let all = and_parts (ltb i m.size && ltb k m.size) (has_entry m.entries (get_or o.rows i 0) (get_or o.columns k 0)) on in
    let two = and_parts (ltb i m.size) (ltb k m.size) all.0 in
    (ltb-true i m.size two.0, ltb-true k m.size two.1)

pub filling_smallest : (m : Pattern) (o : Orders) → Smallest (permuted m o) (filling m o)
filling_smallest m o = smallest (permuted m o) m.size (permuted_inside m o)

-- ---- the levels of n columns
module _ (f : Places) (n : ℕ) where
  level_few : (k : ℕ) → k < length (levels_of f n) → get_or (levels_of f n) k 0 < length (levels_of f n)
  level_few k below = omega (arith, levels_long f n, level_below f n k (omega (arith, levels_long f n)))

  pub levels_sequenced : Sequenced n (levels_of f n) (sequence_of (levels_of f n))
  levels_sequenced = subst (λ (x : ℕ). Sequenced x (levels_of f n) (sequence_of (levels_of f n))) (levels_long f n) (sequenced (levels_of f n) level_few)

  pub levels_clustered : (threshold : ℕ) → Clustered n threshold (levels_of f n) (cluster_levels_of (levels_of f n) threshold)
  levels_clustered threshold = subst (λ (x : ℕ). Clustered x threshold (levels_of f n) (cluster_levels_of (levels_of f n) threshold)) (levels_long f n) (clustered (levels_of f n) threshold)

  pub awaited_earlier : (k j : ℕ) → k < n → Awaits f k j → position (sequence_of (levels_of f n)) j < position (sequence_of (levels_of f n)) k
  awaited_earlier k j below awaits =
      ⊎_elim
      (λ (good : position xs j < position xs k). good)
      (λ (late : position xs k ≤ position xs j).
      ⊎_elim
      (λ (same : position xs k ≡ position xs j). absurd (omega (arith, sym at_k.1 ∙ ap (λ (s : ℕ). get_or xs s 0) same ∙ at_j.1, awaits.0)))
      (λ (apart : position xs k ≡ position xs j → ⊥).
      absurd (⊎_elim
      (λ (less : get_or levels k 0 < get_or levels j 0). omega (arith, above))
      (λ (level : (get_or levels k 0 ≡ get_or levels j 0) × (k < j)). omega (arith, above, level.0))
      (before (omega arith))))
      (cases_eq (position xs k) (position xs j)))
      (cases_lt (position xs j) (position xs k))
    where
      levels : List ℕ
      levels = levels_of f n

      xs : List ℕ
      xs = sequence_of (levels_of f n)

      at_j : (position xs j < n) × (get_or xs (position xs j) 0 ≡ j)
      at_j = levels_sequenced.named j (omega (arith, awaits.0))

      at_k : (position xs k < n) × (get_or xs (position xs k) 0 ≡ k)
      at_k = levels_sequenced.named k below

      above : get_or levels j 0 < get_or levels k 0
      above = (levelled f n).above k j below awaits

      before : position xs k < position xs j → Before levels k j
      before less =
          subst (λ (x : ℕ). Before levels x j) at_k.1
          (subst (λ (y : ℕ). Before levels (get_or xs (position xs k) 0) y) at_j.1 (levels_sequenced.rising (position xs k) (position xs j) less at_j.0))

pub plan_law : (m : Pattern) (o : Orders) (threshold : ℕ) → PlanLaw m o threshold
plan_law m o threshold = record {
  smallest = filling_smallest m o;
  listed = listed (filling m o) m.size;
  awaited = awaited_law (filling m o);
  levelled = levelled (filling m o) m.size;
  sequenced = levels_sequenced (filling m o) m.size;
  earlier = awaited_earlier (filling m o) m.size;
  clustered = levels_clustered (filling m o) m.size threshold;
}
