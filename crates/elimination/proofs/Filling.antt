-- The test of filled places is the smallest set. Assumes nothing.
use Rattle.std.proofs.Common.{◌≡◌, ℕ, zero, suc, ◌<◌, ◌≤◌, Bool, true, false, ◌&&◌, ◌||◌, ltb, ◌⊎◌, sym, refl, ap, ◌∙◌, subst, inl, inr, ⊎_elim, arith}
use Rattle.std.proofs.lemmas.Bool.{lt-ltb, le-ltb, ltb-true, and_parts, and_from, and_left, and_right, or_cases, or_left, or_right, cases_eq}
use Rattle.network.proofs.Permuting.{or_false}
use Rattle.elimination.specs.Fill.{Places, Filled, filled}
use Rattle.elimination.specs.Fill.Filled.{entry, fill}
use Rattle.elimination.specs.Laws.{Closed, Smallest}

and_one : (b : Bool) → b ≡ (b && true)
and_one true = refl
and_one false = refl

module _ (B : Places) where
  grows : (c i k : ℕ) → filled B c i k ≡ true → filled B (suc c) i k ≡ true
  grows c i k h = or_left _ _ h

  grows_to : (d c i k : ℕ) → c ≤ d → filled B c i k ≡ true → filled B d i k ≡ true
  grows_to zero c i k below h = let e : c ≡ 0 = omega arith in subst (λ (x : ℕ). filled B x i k ≡ true) e h
  grows_to (suc d) c i k below h =
      ⊎_elim
      (λ (same : c ≡ suc d). subst (λ (x : ℕ). filled B x i k ≡ true) same h)
      (λ (less : c ≡ suc d → ⊥). grows d i k (grows_to d c i k (omega arith) h))
      (cases_eq c (suc d))

  -- one of two reasons to stop
  past : (c i k : ℕ) → (i ≤ c) ⊎ (k ≤ c) → (ltb c i && ltb c k) ≡ false
  past c i k h = ⊎_elim (λ (r : i ≤ c). and_left _ _ (le-ltb c i r)) (λ (r : k ≤ c). and_right _ _ (le-ltb c k r)) h

  settled : (c i k : ℕ) → (i ≤ c) ⊎ (k ≤ c) → filled B (suc c) i k ≡ filled B c i k
  settled c i k h = sym (or_false _ _ (and_left _ _ (past c i k h)))

  -- later columns do not change what the smaller of row and column has settled
  pub settled_to : (d c i k : ℕ) → c ≤ d → (i ≤ c) ⊎ (k ≤ c) → filled B d i k ≡ filled B c i k
  settled_to zero c i k below h = let e : 0 ≡ c = omega arith in ap (λ (x : ℕ). filled B x i k) e
  settled_to (suc d) c i k below h =
      ⊎_elim
      (λ (same : suc d ≡ c). ap (λ (x : ℕ). filled B x i k) same)
      (λ (less : suc d ≡ c → ⊥).
      settled d i k (⊎_elim (λ (r : i ≤ c). inl (omega arith)) (λ (r : k ≤ c). inr (omega arith)) h)
      ∙ settled_to d c i k (omega arith) h)
      (cases_eq (suc d) c)

  -- one step, taken apart
  step : (c i k : ℕ) → filled B (suc c) i k ≡ true → (filled B c i k ≡ true) ⊎ ((c < i) × (c < k) × (filled B c i c ≡ true) × (filled B c c k ≡ true))
  step c i k h =
      ⊎_elim inl
      (λ (two : ((ltb c i && ltb c k) && (filled B c i c && filled B c c k)) ≡ true).
      let a = and_parts (ltb c i && ltb c k) (filled B c i c && filled B c c k) two in
      let b = and_parts (ltb c i) (ltb c k) a.0 in
      let e = and_parts (filled B c i c) (filled B c c k) a.1 in
      inr (ltb-true c i b.0, ltb-true c k b.1, e.0, e.1))
      (or_cases (filled B c i k) _ h)

  step_back : (c i k : ℕ) → c < i → c < k → filled B c i c ≡ true → filled B c c k ≡ true → filled B (suc c) i k ≡ true
  step_back c i k low left a b = or_right _ _ (and_from _ _ (and_from _ _ (lt-ltb c i low) (lt-ltb c k left)) (and_from _ _ a b))

  sound : (c i k : ℕ) → filled B c i k ≡ true → Filled B i k
  sound zero i k h = entry i k h
  sound (suc c) i k h =
      ⊎_elim (λ (old : filled B c i k ≡ true). sound c i k old)
      (λ (new : (c < i) × (c < k) × (filled B c i c ≡ true) × (filled B c c k ≡ true)).
      fill i c k new.0 new.1 (sound c i c new.2) (sound c c k new.3))
      (step c i k h)

  least : (R : Places) → Closed B R → (c i k : ℕ) → filled B c i k ≡ true → R i k ≡ true
  least R closed zero i k h = closed.entries i k h
  least R closed (suc c) i k h =
      ⊎_elim (λ (old : filled B c i k ≡ true). least R closed c i k old)
      (λ (new : (c < i) × (c < k) × (filled B c i c ≡ true) × (filled B c c k ≡ true)).
      closed.fills i c k new.0 new.1 (least R closed c i c new.2) (least R closed c c k new.3))
      (step c i k h)

  -- ---- column k takes up the rows of column j below j, where j is filled in it
  pub step_skips : (j i k : ℕ) → filled B j j k ≡ false → filled B j i k ≡ filled B (suc j) i k
  step_skips j i k off = or_false _ _ (and_right (ltb j i && ltb j k) _ (and_right (filled B j i j) _ off))

  pub step_takes : (n j i k : ℕ) → j < k → j ≤ n → filled B j j k ≡ true → (filled B j i k || (ltb j i && filled B n i j)) ≡ filled B (suc j) i k
  step_takes n j i k below few on =
      let left = sym (lt-ltb j k below) in
      let here = sym on in
      ap (λ (b : Bool). filled B j i k || b)
      (ap (λ (b : Bool). ltb j i && b) (settled_to n j i j few (inr (omega arith)))
      ∙ λ d. (and_one (ltb j i) d) && (and_one (filled B j i j) d))
      ∙ (λ d. filled B j i k || ((ltb j i && left d) && (filled B j i j && here d)))

  -- B has no entry outside n by n
  module _ (n : ℕ) (inside : (i k : ℕ) → B i k ≡ true → (i < n) × (k < n)) where
    pub bounded : (c i k : ℕ) → filled B c i k ≡ true → (i < n) × (k < n)
    bounded zero i k h = inside i k h
    bounded (suc c) i k h =
        ⊎_elim (λ (old : filled B c i k ≡ true). bounded c i k old)
        (λ (new : (c < i) × (c < k) × (filled B c i c ≡ true) × (filled B c c k ≡ true)).
        ((bounded c i c new.2).0, (bounded c c k new.3).1))
        (step c i k h)

    fills : (i j k : ℕ) → j < i → j < k → filled B n i j ≡ true → filled B n j k ≡ true → filled B n i k ≡ true
    fills i j k low left a b =
        let few : j < n = (bounded n j k b).0 in
        let a2 = sym (settled_to n j i j (omega arith) (inr (omega arith))) ∙ a in
        let b2 = sym (settled_to n j j k (omega arith) (inl (omega arith))) ∙ b in
        grows_to n (suc j) i k (omega arith) (step_back j i k low left a2 b2)

    pub closed : Closed B (filled B n)
    closed = record { entries = λ i k h. grows_to n 0 i k (omega arith) h; fills = fills }

    complete : (i k : ℕ) → Filled B i k → filled B n i k ≡ true
    complete i k (entry a b h) = grows_to n 0 i k (omega arith) h
    complete i k (fill a j b low left one two) = fills i j k low left (complete i j one) (complete j k two)

    pub smallest : Smallest B (filled B n)
    smallest = record {
      closed = closed;
      forced = λ R other i k h. least R other n i k h;
      only_filled = λ i k h. sound n i k h;
      all_filled = complete;
    }
