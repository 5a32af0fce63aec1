-- The level of a column is above every awaited one, and 0 or one above an awaited one. Assumes nothing.
use Rattle.std.proofs.Common.{◌≡◌, ℕ, zero, suc, ◌+◌, ◌<◌, ◌≤◌, max, true, false, eqb, ltb, ◌⊎◌, List, [], ◌∷◌, ◌++◌, length, get_or, fold, sym, refl, ap, ◌∙◌, subst, inl, inr, ⊎_elim, add-one, arith}
use native.Mathlib.Nat.{le-max_left, le-max_right, max-eq_left, max-eq_right}
use Rattle.std.proofs.lemmas.List.{length_push, get_or_append_left, get_or_push}
use Rattle.std.proofs.lemmas.Bool.{cases_eq, cases_lt, both_ways, lt-ltb, ltb-true, eq-eqb, eqb-true, and_parts, and_from, or_cases, or_left, or_right}
use Rattle.network.specs.Permutations.{met}
use Rattle.elimination.specs.Fill.{Places}
use Rattle.elimination.specs.Laws.{Awaits, Levelled}
use Rattle.elimination.specs.Plans.{awaited_by, level_past, levels_of}
use Rattle.elimination.proofs.Storing.{met_kept}

-- ---- the highest of a list, from a start
module _ (levels : List ℕ) where
  abbrev raised : ℕ → List ℕ → ℕ
  raised a xs = fold (λ highest j. max highest (get_or levels j 0 + 1)) a xs

  raised_start : (xs : List ℕ) (a : ℕ) → a ≤ raised a xs
  raised_start [] a = omega arith
  raised_start (x ∷ xs) a = omega (arith, raised_start xs (max a (get_or levels x 0 + 1)), le-max_left a (get_or levels x 0 + 1))

  raised_above : (xs : List ℕ) (a j : ℕ) → met j xs ≡ true → get_or levels j 0 + 1 ≤ raised a xs
  raised_above [] a j on = absurd (both_ways false refl on)
  raised_above (x ∷ xs) a j on =
      ⊎_elim
      (λ (here : eqb x j ≡ true).
      subst (λ (y : ℕ). get_or levels y 0 + 1 ≤ raised a (x ∷ xs)) (eqb-true x j here)
      (omega (arith, raised_start xs (max a (get_or levels x 0 + 1)), le-max_right a (get_or levels x 0 + 1))))
      (λ (later : met j xs ≡ true). raised_above xs (max a (get_or levels x 0 + 1)) j later)
      (or_cases (eqb x j) (met j xs) on)

  raised_reached : (xs : List ℕ) (a : ℕ) → (raised a xs ≡ a) ⊎ ((j : ℕ) × (met j xs ≡ true) × (raised a xs ≡ get_or levels j 0 + 1))
  raised_reached [] a = inl refl
  raised_reached (x ∷ xs) a =
      ⊎_elim
      (λ (same : raised a (x ∷ xs) ≡ max a (get_or levels x 0 + 1)).
      ⊎_elim
      (λ (low : a < get_or levels x 0 + 1). inr (x, or_left (eqb x x) (met x xs) (eq-eqb x x refl), same ∙ max-eq_right (omega arith)))
      (λ (high : get_or levels x 0 + 1 ≤ a). inl (same ∙ max-eq_left high))
      (cases_lt a (get_or levels x 0 + 1)))
      (λ (some : (j : ℕ) × (met j xs ≡ true) × (raised a (x ∷ xs) ≡ get_or levels j 0 + 1)).
      inr (some.0, or_right (eqb x some.0) (met some.0 xs) some.1, some.2))
      (raised_reached xs (max a (get_or levels x 0 + 1)))

-- ---- the levels, one column after another
module _ (f : Places) where
  pub levels_more : (k : ℕ) → levels_of f (k + 1) ≡ levels_of f k ++ level_past (levels_of f k) (awaited_by f k) ∷ []
  levels_more k = ap (levels_of f) (add-one k)

  pub levels_long : (k : ℕ) → length (levels_of f k) ≡ k
  levels_long zero = refl
  levels_long (suc k) = omega (arith, length_push (levels_of f k) (level_past (levels_of f k) (awaited_by f k)), levels_long k)

  pub level_is : (n k : ℕ) → k < n → get_or (levels_of f n) k 0 ≡ level_past (levels_of f k) (awaited_by f k)
  level_is zero k below = absurd (omega arith)
  level_is (suc n) k below =
      ⊎_elim
      (λ (same : n ≡ k).
      get_or_push (levels_of f n) (level_past (levels_of f n) (awaited_by f n)) 0 k (levels_long n ∙ same)
      ∙ ap (λ (x : ℕ). level_past (levels_of f x) (awaited_by f x)) same)
      (λ (apart : n ≡ k → ⊥).
      get_or_append_left (levels_of f n) (level_past (levels_of f n) (awaited_by f n) ∷ []) 0 k (omega (arith, levels_long n))
      ∙ level_is n k (omega arith))
      (cases_eq n k)

  -- later columns do not change a level
  pub level_stays : (n m k : ℕ) → k < n → k < m → get_or (levels_of f n) k 0 ≡ get_or (levels_of f m) k 0
  level_stays n m k low high = level_is n k low ∙ sym (level_is m k high)

  -- what is met among the awaited is awaited
  awaited_met : (k j : ℕ) → met j (awaited_by f k) ≡ true → Awaits f k j
  awaited_met k j on =
      let two = and_parts (ltb j k) (f j k) (sym (met_kept (λ i. f i k) j k) ∙ on) in
      (ltb-true j k two.0, two.1)

  pub met_awaited : (k j : ℕ) → Awaits f k j → met j (awaited_by f k) ≡ true
  met_awaited k j h = met_kept (λ i. f i k) j k ∙ and_from (ltb j k) (f j k) (lt-ltb j k h.0) h.1

  reached : (n k : ℕ) → k < n → (get_or (levels_of f n) k 0 ≡ 0) ⊎ ((j : ℕ) × Awaits f k j × (get_or (levels_of f n) k 0 ≡ get_or (levels_of f n) j 0 + 1))
  reached n k below =
      ⊎_elim
      (λ (none : level_past (levels_of f k) (awaited_by f k) ≡ 0). inl (level_is n k below ∙ none))
      (λ (some : (j : ℕ) × (met j (awaited_by f k) ≡ true) × (level_past (levels_of f k) (awaited_by f k) ≡ get_or (levels_of f k) j 0 + 1)).
      let awaits = awaited_met k some.0 some.1 in
      inr (some.0, awaits, level_is n k below ∙ some.2 ∙ ap (λ (x : ℕ). x + 1) (level_stays k n some.0 awaits.0 (omega (arith, awaits.0)))))
      (raised_reached (levels_of f k) (awaited_by f k) 0)

  above : (n k j : ℕ) → k < n → Awaits f k j → get_or (levels_of f n) j 0 < get_or (levels_of f n) k 0
  above n k j below awaits =
      omega (
        arith,
        raised_above (levels_of f k) (awaited_by f k) 0 j (met_awaited k j awaits),
        level_is n k below,
        level_stays n k j (omega (arith, awaits.0)) awaits.0,
      )

  pub levelled : (n : ℕ) → Levelled f n (levels_of f n)
  levelled n = record { long = levels_long n; above = above n; reached = reached n }

  -- a level is at most the column's number
  pub level_below : (n k : ℕ) → k < n → get_or (levels_of f n) k 0 ≤ k
  level_below n k below = low (k + 1) k (omega arith) below
    where
      low : (m k : ℕ) → k < m → k < n → get_or (levels_of f n) k 0 ≤ k
      low zero k h below = absurd (omega arith)
      low (suc m) k h below =
          ⊎_elim
          (λ (none : get_or (levels_of f n) k 0 ≡ 0). omega arith)
          (λ (some : (j : ℕ) × Awaits f k j × (get_or (levels_of f n) k 0 ≡ get_or (levels_of f n) j 0 + 1)).
          omega (arith, low m some.0 (omega (arith, some.1.0)) (omega (arith, some.1.0)), some.1.0, some.2))
          (reached n k below)
