-- The sequence names each column once, by level and within a level by number. Assumes nothing.
use Rattle.std.proofs.Common.{◌≡◌, ℕ, zero, suc, ◌+◌, ◌<◌, ◌≤◌, Bool, true, false, cond, eqb, ltb, List, [], ◌∷◌, length, get_or, filter, sym, refl, ap, ◌∙◌, inl, inr, ⊎_elim, arith}
use Rattle.std.specs.List.{range_with_len, AllByRecursion as All}
use Rattle.std.proofs.lemmas.List.FromFn.{length-range_with_len}
use Rattle.std.proofs.ByRecursion.{All-append, All-get_or, All-weaker}
use Rattle.std.proofs.lemmas.List.{length-append}
use Rattle.std.proofs.lemmas.Bool.{le-ltb, lt-ltb, eqb-true}
use Rattle.std.proofs.lemmas.Bool.Decides.{nat_tests}
use Rattle.network.proofs.Permuting.{stands}
use Rattle.elimination.specs.Laws.{Before, Sequenced}
use Rattle.elimination.specs.Plans.{of_level, by_level, sequence_of}
use Rattle.elimination.proofs.Ordered.{Ordered, ordered_append, ordered_among, ordered_get_or, ordered_position, ordered_distinct, kept_rises}
use Rattle.elimination.proofs.Storing.{kept_within, kept_same}

-- ---- how many lie below a bound
abbrev how_many : (ℕ → Bool) → List ℕ → ℕ
how_many p xs = length (filter p xs)

how_many_next : (p : ℕ → Bool) (x : ℕ) (xs : List ℕ) → how_many p (x ∷ xs) ≡ cond (p x) 1 0 + how_many p xs
how_many_next p x xs = elim (p x) as (λ b. length (cond b (x ∷ filter p xs) (filter p xs)) ≡ cond b 1 0 + how_many p xs) [ true ↦ omega arith | false ↦ omega arith ]

one_higher : (a l : ℕ) → cond (ltb a (suc l)) 1 0 ≡ cond (ltb a l) 1 0 + cond (eqb a l) 1 0
one_higher a l = grind (arith, nat_tests)

module _ (g : ℕ → ℕ) where
  none_below : (xs : List ℕ) → how_many (λ k. ltb (g k) 0) xs ≡ 0
  none_below [] = refl
  none_below (x ∷ xs) = omega (arith, how_many_next (λ k. ltb (g k) 0) x xs, ap {B = ℕ} (λ (b : Bool). cond b 1 0) (le-ltb (g x) 0 (omega arith)), none_below xs)

  more_below : (l : ℕ) (xs : List ℕ) → how_many (λ k. ltb (g k) (suc l)) xs ≡ how_many (λ k. ltb (g k) l) xs + how_many (λ k. eqb (g k) l) xs
  more_below l [] = omega arith
  more_below l (x ∷ xs) =
      omega (
        arith,
        how_many_next (λ k. ltb (g k) (suc l)) x xs,
        how_many_next (λ k. ltb (g k) l) x xs,
        how_many_next (λ k. eqb (g k) l) x xs,
        one_higher (g x) l,
        more_below l xs,
      )

every_kept : (xs : List ℕ) → filter (λ _. true) xs ≡ xs
every_kept [] = refl
every_kept (x ∷ xs) = ap (λ (ys : List ℕ). x ∷ ys) (every_kept xs)

module _ (levels : List ℕ) where
  abbrev Within : ℕ → ℕ → Type 0
  Within l k = (k < length levels) × (get_or levels k 0 < l)

  abbrev Of : ℕ → ℕ → Type 0
  Of l k = (k < length levels) × (get_or levels k 0 ≡ l)

  level_within : (l : ℕ) → All (Of l) (of_level levels l)
  level_within l =
      All-weaker (λ i. (0 ≤ i) × (i < 0 + length levels) × (eqb (get_or levels i 0) l ≡ true)) (Of l)
      (λ i h. (omega (arith, h.1), eqb-true (get_or levels i 0) l h.2))
      (of_level levels l) (kept_within (λ k. eqb (get_or levels k 0) l) (length levels) 0)

  levels_within : (l : ℕ) → All (Within l) (by_level levels l)
  levels_within zero = tt
  levels_within (suc l) =
      All-append (Within (suc l)) (by_level levels l) (of_level levels l)
      (All-weaker (Within l) (Within (suc l)) (λ k h. (h.0, omega (arith, h.1))) (by_level levels l) (levels_within l))
      (All-weaker (Of l) (Within (suc l)) (λ k h. (h.0, omega (arith, h.1))) (of_level levels l) (level_within l))

  level_ordered : (l : ℕ) → Ordered (Before levels) (of_level levels l)
  level_ordered l =
      ordered_among ◌<◌ (Of l) (Before levels) (λ j k a b less. inr (a.1 ∙ sym b.1, less)) (of_level levels l)
      (level_within l) (kept_rises (λ k. eqb (get_or levels k 0) l) (length levels))

  levels_ordered : (l : ℕ) → Ordered (Before levels) (by_level levels l)
  levels_ordered zero = tt
  levels_ordered (suc l) =
      ordered_append (Before levels) (by_level levels l) (of_level levels l) (levels_ordered l) (level_ordered l)
      (All-weaker (Within l) (λ j. All (Before levels j) (of_level levels l))
      (λ j h. All-weaker (Of l) (Before levels j) (λ k e. inl (omega (arith, h.1, e.1))) (of_level levels l) (level_within l))
      (by_level levels l) (levels_within l))

  never_itself : (k : ℕ) → Before levels k k → ⊥
  never_itself k h = ⊎_elim (λ (less : get_or levels k 0 < get_or levels k 0). omega arith) (λ (same : (get_or levels k 0 ≡ get_or levels k 0) × (k < k)). omega (arith, same.1)) h

  levels_count : (l : ℕ) → length (by_level levels l) ≡ how_many (λ k. ltb (get_or levels k 0) l) (range_with_len 0 (length levels))
  levels_count zero = sym (none_below (λ k. get_or levels k 0) (range_with_len 0 (length levels)))
  levels_count (suc l) =
      omega (
        arith,
        length-append (by_level levels l) (of_level levels l),
        levels_count l,
        more_below (λ k. get_or levels k 0) l (range_with_len 0 (length levels)),
      )

  -- every level is below the number of columns
  module _ (low : (k : ℕ) → k < length levels → get_or levels k 0 < length levels) where
    sequence_long : length (sequence_of levels) ≡ length levels
    sequence_long =
        levels_count (length levels)
        ∙ ap length (kept_same (λ k. ltb (get_or levels k 0) (length levels)) (λ _. true) (length levels) (λ k below. lt-ltb _ _ (low k below)) ∙ every_kept (range_with_len 0 (length levels)))
        ∙ length-range_with_len 0 (length levels)

    sequence_below : All (λ k. k < length (sequence_of levels)) (sequence_of levels)
    sequence_below = All-weaker (Within (length levels)) (λ k. k < length (sequence_of levels)) (λ k h. omega (arith, h.0, sequence_long)) (sequence_of levels) (levels_within (length levels))

    pub sequenced : Sequenced (length levels) levels (sequence_of levels)
    sequenced =
        let xs = sequence_of levels in
        let o = levels_ordered (length levels) in
        let named = stands xs (ordered_distinct (Before levels) never_itself xs o sequence_below) in
        record {
          long = sequence_long;
          named = λ k below. let at = named k (omega (arith, sequence_long)) in (omega (arith, at.0, sequence_long), at.1);
          once = λ s inside.
              let inside' : s < length xs = omega (arith, sequence_long) in
              ((All-get_or (Within (length levels)) xs s 0 inside' (levels_within (length levels))).0, ordered_position (Before levels) never_itself xs o s inside');
          rising = λ s t less inside. ordered_get_or (Before levels) xs 0 o s t less (omega (arith, sequence_long));
        }
