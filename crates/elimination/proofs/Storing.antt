-- The filled entries as they are stored: column after column, rows rising. Assumes nothing.
use Rattle.std.proofs.Common.{◌≡◌, ℕ, zero, suc, ◌+◌, ◌-◌, ◌<◌, ◌≤◌, Bool, true, false, cond, ◌&&◌, ◌||◌, eqb, ltb, List, [], ◌∷◌, ◌++◌, map, length, get_or, take, drop, filter, sym, refl, ap, ◌∙◌, subst, ⊎_elim, zero-add, add-one, arith}
use Rattle.std.specs.List.{range_with_len, AllByRecursion as All}
use Rattle.std.proofs.lemmas.List.Elements.{filter-append}
use Rattle.std.proofs.ByRecursion.{All-get_or, All-weaker}
use Rattle.std.proofs.lemmas.Simd.{map-map}
use Rattle.std.proofs.lemmas.List.{append-nil, append_assoc, map-append, map-id, length-append, length-map, take_at, drop_at, get_or-append-add}
use Rattle.std.proofs.lemmas.Bool.{cases_eq, eq-eqb, ne_eqb, lt-ltb, le-ltb, and_from, and_right, cond-true, cond-false, cond_both}
use Rattle.std.proofs.lemmas.Bool.Decides.{nat_tests}
use Rattle.network.specs.declared.entries.Entry.{Entry}
use Rattle.network.specs.Entries.{origin}
use Rattle.network.specs.Permutations.{met}
use Rattle.elimination.specs.Fill.{Places}
use Rattle.elimination.specs.Plans.{rows_of, awaited_by, in_column, stored, start, stored_place}
use Rattle.elimination.specs.Storage.{row_of}

-- ---- counting
pub counting_split : (a m n : ℕ) → range_with_len a (m + n) ≡ range_with_len a m ++ range_with_len (a + m) n
counting_split a zero n =
    let e : 0 + n ≡ n = omega arith in
    let e2 : a ≡ a + 0 = omega arith in
    ap (range_with_len a) e ∙ ap (λ (x : ℕ). range_with_len x n) e2
counting_split a (suc m) n =
    let e : suc m + n ≡ suc (m + n) = omega arith in
    let e2 : a + 1 + m ≡ a + suc m = omega arith in
    ap (range_with_len a) e ∙ ap (λ (xs : List ℕ). a ∷ xs) (counting_split (a + 1) m n)
    ∙ ap (λ (x : ℕ). (a ∷ range_with_len (a + 1) m) ++ range_with_len x n) e2

pub counting_more : (n : ℕ) → range_with_len 0 (n + 1) ≡ range_with_len 0 n ++ n ∷ []
counting_more n = counting_split 0 n 1 ∙ ap (λ (x : ℕ). range_with_len 0 n ++ x ∷ []) (zero-add n)

-- ---- what a test keeps of the numbers below n
module _ (p : ℕ → Bool) where
  pub kept_more : (n : ℕ) → filter p (range_with_len 0 (n + 1)) ≡ filter p (range_with_len 0 n) ++ cond (p n) (n ∷ []) []
  kept_more n = ap (filter p) (counting_more n) ∙ filter-append p (range_with_len 0 n) (n ∷ [])

  pub kept_more_yes : (n : ℕ) → p n ≡ true → filter p (range_with_len 0 (n + 1)) ≡ filter p (range_with_len 0 n) ++ n ∷ []
  kept_more_yes n on = kept_more n ∙ ap (λ (b : Bool). filter p (range_with_len 0 n) ++ cond b (n ∷ []) []) on

  pub kept_more_no : (n : ℕ) → p n ≡ false → filter p (range_with_len 0 (n + 1)) ≡ filter p (range_with_len 0 n)
  kept_more_no n off = kept_more n ∙ ap (λ (b : Bool). filter p (range_with_len 0 n) ++ cond b (n ∷ []) []) off ∙ append-nil (filter p (range_with_len 0 n))

  pub kept_split : (k n : ℕ) → k ≤ n → filter p (range_with_len 0 n) ≡ filter p (range_with_len 0 k) ++ filter p (range_with_len k (n - k))
  kept_split k n below =
      let e : n ≡ k + (n - k) = omega arith in
      ap (λ (x : ℕ). filter p (range_with_len 0 x)) e ∙ ap (filter p) (counting_split 0 k (n - k))
      ∙ ap (λ (x : ℕ). filter p (range_with_len 0 k ++ range_with_len x (n - k))) (zero-add k)
      ∙ filter-append p (range_with_len 0 k) (range_with_len k (n - k))

  -- each is in the range and passes
  pub kept_within : (n a : ℕ) → All (λ i. (a ≤ i) × (i < a + n) × (p i ≡ true)) (filter p (range_with_len a n))
  kept_within zero a = tt
  kept_within (suc n) a =
      let later : All (λ i. (a + 1 ≤ i) × (i < a + 1 + n) × (p i ≡ true)) (filter p (range_with_len (a + 1) n)) = kept_within n (a + 1) in
      let wider = All-weaker (λ i. (a + 1 ≤ i) × (i < a + 1 + n) × (p i ≡ true)) (λ i. (a ≤ i) × (i < a + suc n) × (p i ≡ true)) (λ i h. (omega arith, omega arith, h.2)) (filter p (range_with_len (a + 1) n)) later in
      cond_both (p a) (a ∷ filter p (range_with_len (a + 1) n)) (filter p (range_with_len (a + 1) n)) (All (λ i. (a ≤ i) × (i < a + suc n) × (p i ≡ true)))
      (λ yes. ((omega arith, omega arith, yes), wider))
      (λ no. wider)

  -- what passes is kept, and nothing else
  pub met_kept : (v n : ℕ) → met v (filter p (range_with_len 0 n)) ≡ (ltb v n && p v)
  met_kept v zero = sym (ap (λ (b : Bool). b && p v) (le-ltb v 0 (omega arith)))
  met_kept v (suc n) =
      subst (λ (m : ℕ). met v (filter p (range_with_len 0 m)) ≡ (ltb v m && p v)) (add-one n)
      (ap (met v) (kept_more n) ∙ met_append v (filter p (range_with_len 0 n)) (cond (p n) (n ∷ []) [])
      ∙ ap (λ (b : Bool). b || met v (cond (p n) (n ∷ []) [])) (met_kept v n)
      ∙ one_more)
    where
      met_append : (v : ℕ) (xs ys : List ℕ) → met v (xs ++ ys) ≡ (met v xs || met v ys)
      met_append v [] ys = refl
      met_append v (x ∷ xs) ys = elim (eqb x v) as (λ b. (b || met v (xs ++ ys)) ≡ ((b || met v xs) || met v ys)) [ true ↦ refl | false ↦ met_append v xs ys ]

      single : (b : Bool) → met v (cond b (n ∷ []) []) ≡ (b && eqb n v)
      single true = elim (eqb n v) as (λ b. (b || false) ≡ (true && b)) [ true ↦ refl | false ↦ refl ]
      single false = refl

      one_more : ((ltb v n && p v) || met v (cond (p n) (n ∷ []) [])) ≡ (ltb v (n + 1) && p v)
      one_more =
          ap (λ (b : Bool). (ltb v n && p v) || b) (single (p n))
          ∙ grind (arith, nat_tests)

-- ---- a filter that keeps all, or nothing
pub kept_all : (q : ℕ → Bool) (xs : List ℕ) → All (λ x. q x ≡ true) xs → filter q xs ≡ xs
kept_all q [] all = refl
kept_all q (x ∷ xs) all = cond-true (q x) _ _ all.0 ∙ ap (λ (ys : List ℕ). x ∷ ys) (kept_all q xs all.1)

pub kept_none : (q : ℕ → Bool) (xs : List ℕ) → All (λ x. q x ≡ false) xs → filter q xs ≡ []
kept_none q [] all = refl
kept_none q (x ∷ xs) all = cond-false (q x) (x ∷ filter q xs) _ all.0 ∙ kept_none q xs all.1

-- those below i of the numbers below n that pass
pub kept_below : (p : ℕ → Bool) (n i : ℕ) → i ≤ n → filter (λ x. ltb x i) (filter p (range_with_len 0 n)) ≡ filter p (range_with_len 0 i)
kept_below p n i below =
    ap (filter (λ x. ltb x i)) (kept_split p i n below) ∙ filter-append (λ x. ltb x i) (filter p (range_with_len 0 i)) (filter p (range_with_len i (n - i)))
    ∙ (λ d. kept_all (λ x. ltb x i) (filter p (range_with_len 0 i)) low d ++ kept_none (λ x. ltb x i) (filter p (range_with_len i (n - i))) high d)
    ∙ append-nil (filter p (range_with_len 0 i))
  where
    low : All (λ x. ltb x i ≡ true) (filter p (range_with_len 0 i))
    low = All-weaker (λ x. (0 ≤ x) × (x < 0 + i) × (p x ≡ true)) (λ x. ltb x i ≡ true) (λ x h. lt-ltb x i (omega (arith, h.1))) (filter p (range_with_len 0 i)) (kept_within p i 0)

    high : All (λ x. ltb x i ≡ false) (filter p (range_with_len i (n - i)))
    high = All-weaker (λ x. (i ≤ x) × (x < i + (n - i)) × (p x ≡ true)) (λ x. ltb x i ≡ false) (λ x h. le-ltb x i h.0) (filter p (range_with_len i (n - i))) (kept_within p (n - i) i)

-- two tests that agree below n keep the same
pub kept_same : (p q : ℕ → Bool) (n : ℕ) → ((i : ℕ) → i < n → p i ≡ q i) → filter p (range_with_len 0 n) ≡ filter q (range_with_len 0 n)
kept_same p q zero same = refl
kept_same p q (suc n) same =
    subst (λ (m : ℕ). filter p (range_with_len 0 m) ≡ filter q (range_with_len 0 m)) (add-one n)
    (kept_more p n ∙ (λ d. kept_same p q n (λ i h. same i (omega arith)) d ++ cond (same n (omega arith) d) (n ∷ []) []) ∙ sym (kept_more q n))

-- ---- the stored entries
pub rows_in_column : (k : ℕ) (xs : List ℕ) → map row_of (map (in_column k) xs) ≡ xs
rows_in_column k xs = map-map row_of (in_column k) xs ∙ map-id xs

module _ (f : Places) (n : ℕ) where
  pub stored_more : (k : ℕ) → stored f n (k + 1) ≡ stored f n k ++ map (in_column k) (rows_of f n k)
  stored_more k = ap (stored f n) (add-one k)

  pub start_more : (k : ℕ) → start f n (k + 1) ≡ start f n k + length (rows_of f n k)
  start_more k =
      ap length (stored_more k) ∙ length-append (stored f n k) (map (in_column k) (rows_of f n k))
      ∙ ap (λ (x : ℕ). start f n k + x) (length-map (rows_of f n k) (in_column k))

  pub stored_splits : (m k : ℕ) → k ≤ m → (rest : List Entry) × (stored f n m ≡ stored f n k ++ rest)
  stored_splits zero k below = let e : 0 ≡ k = omega arith in ([], ap (stored f n) e ∙ sym (append-nil (stored f n k)))
  stored_splits (suc m) k below =
      ⊎_elim
      (λ (same : suc m ≡ k). ([], ap (stored f n) same ∙ sym (append-nil (stored f n k))))
      (λ (less : suc m ≡ k → ⊥).
      let one = stored_splits m k (omega arith) in
      (one.0 ++ map (in_column m) (rows_of f n m), ap (λ (xs : List Entry). xs ++ map (in_column m) (rows_of f n m)) one.1 ∙ append_assoc (stored f n k) one.0 (map (in_column m) (rows_of f n m))))
      (cases_eq (suc m) k)

  pub start_rises : (m k : ℕ) → k ≤ m → start f n k ≤ start f n m
  start_rises m k below =
      let one = stored_splits m k below in
      omega (arith, ap length one.1 ∙ length-append (stored f n k) one.0)

  -- what stands between two starts is the column
  pub column_stands : (m k : ℕ) → k < m → take (start f n (k + 1) - start f n k) (drop (start f n k) (stored f n m)) ≡ map (in_column k) (rows_of f n k)
  column_stands m k below =
      let one = stored_splits m (k + 1) (omega arith) in
      let column = map (in_column k) (rows_of f n k) in
      let whole : stored f n m ≡ stored f n k ++ (column ++ one.0) =
      one.1 ∙ ap (λ (xs : List Entry). xs ++ one.0) (stored_more k) ∙ append_assoc (stored f n k) column one.0 in
      let long : length column ≡ start f n (k + 1) - start f n k = omega (arith, start_more k, length-map (rows_of f n k) (in_column k)) in
      ap (λ (xs : List Entry). take (start f n (k + 1) - start f n k) (drop (start f n k) xs)) whole
      ∙ ap (take (start f n (k + 1) - start f n k)) (drop_at (stored f n k) (column ++ one.0) (start f n k) refl)
      ∙ take_at column one.0 _ long

  -- the filled rows of column k from the diagonal on
  abbrev others : ℕ → List ℕ
  others k = filter (λ i. f i k) (range_with_len k (n - k))

  -- the stored entries: those of the columns before k, those of k above its diagonal, the others of k, and the rest
  parts : (m k : ℕ) → k < m → k ≤ n → (rest : List Entry) × (stored f n m ≡ stored f n k ++ (map (in_column k) (awaited_by f k) ++ (map (in_column k) (others k) ++ rest)))
  parts m k below inside =
      let one = stored_splits m (k + 1) (omega arith) in
      let above = map (in_column k) (awaited_by f k) in
      let under = map (in_column k) (others k) in
      let column : map (in_column k) (rows_of f n k) ≡ above ++ under =
      ap (map (in_column k)) (kept_split (λ i. f i k) k n inside) ∙ map-append (in_column k) (awaited_by f k) (others k) in (
        one.0,
        one.1 ∙ ap (λ (xs : List Entry). xs ++ one.0) (stored_more k ∙ ap (λ (xs : List Entry). stored f n k ++ xs) column)
            ∙ append_assoc (stored f n k) (above ++ under) one.0
            ∙ ap (λ (xs : List Entry). stored f n k ++ xs) (append_assoc above under one.0),
      )

  -- what stands between a start and the diagonal is awaited
  pub awaited_stands : (m k : ℕ) → k < m → k ≤ n → take (stored_place f n k k - start f n k) (drop (start f n k) (stored f n m)) ≡ map (in_column k) (awaited_by f k)
  awaited_stands m k below inside =
      let whole = parts m k below inside in
      let rest = map (in_column k) (others k) ++ whole.0 in
      let long : length (map (in_column k) (awaited_by f k)) ≡ stored_place f n k k - start f n k = omega (arith, length-map (awaited_by f k) (in_column k)) in
      ap (λ (xs : List Entry). take (stored_place f n k k - start f n k) (drop (start f n k) xs)) whole.1
      ∙ ap (take (stored_place f n k k - start f n k)) (drop_at (stored f n k) (map (in_column k) (awaited_by f k) ++ rest) (start f n k) refl)
      ∙ take_at (map (in_column k) (awaited_by f k)) rest _ long

  -- ---- the diagonal
  others_long : (k : ℕ) → k ≤ n → start f n (k + 1) ≡ stored_place f n k k + length (others k)
  others_long k inside =
      let two = ap length (kept_split (λ i. f i k) k n inside) ∙ length-append (awaited_by f k) (others k) in
      omega (arith, start_more k, two)

  others_first : (m k : ℕ) → k < m → k ≤ n → (rest : List Entry) × (get_or (stored f n m) (stored_place f n k k) origin ≡ get_or (map (in_column k) (others k) ++ rest) 0 origin)
  others_first m k below inside =
      let whole = parts m k below inside in
      let above = map (in_column k) (awaited_by f k) in
      let tail = map (in_column k) (others k) ++ whole.0 in
      let at : stored_place f n k k ≡ length (stored f n k) + (length above + 0) = omega (arith, length-map (awaited_by f k) (in_column k)) in (
        whole.0,
        (λ d. get_or (whole.1 d) (at d) origin)
            ∙ get_or-append-add (stored f n k) (above ++ tail) (length above + 0) origin
            ∙ get_or-append-add above tail 0 origin,
      )

  -- the column goes on at the diagonal's place with the diagonal itself, if it is filled
  pub diagonal_stands : (m k : ℕ) → k < m → k < n → (ltb (stored_place f n k k) (start f n (k + 1)) && eqb (get_or (stored f n m) (stored_place f n k k) origin).row k) ≡ f k k
  diagonal_stands m k below inside =
      let first = others_first m k below (omega arith) in
      let e : n - k ≡ suc (n - (k + 1)) = omega arith in
      let split : others k ≡ cond (f k k) (k ∷ filter (λ i. f i k) (range_with_len (k + 1) (n - (k + 1)))) (filter (λ i. f i k) (range_with_len (k + 1) (n - (k + 1)))) = ap (λ (x : ℕ). filter (λ i. f i k) (range_with_len k x)) e in
      let shift : ltb (stored_place f n k k) (start f n (k + 1)) ≡ ltb 0 (length (others k)) = ltb_shift (stored_place f n k k) (start f n (k + 1)) (length (others k)) (others_long k (omega arith)) in
      (λ d. shift d && eqb (first.1 d).row k)
      ∙ ap (λ (xs : List ℕ). ltb 0 (length xs) && eqb (get_or (map (in_column k) xs ++ first.0) 0 origin).row k) split
      ∙ here (f k k) (filter (λ i. f i k) (range_with_len (k + 1) (n - (k + 1)))) first.0 (kept_within (λ i. f i k) (n - (k + 1)) (k + 1))
    where
      ltb_shift : (a b c : ℕ) → b ≡ a + c → ltb a b ≡ ltb 0 c
      ltb_shift a b c is = grind (arith, nat_tests)

      past : (xs : List ℕ) (rest : List Entry) → All (λ i. (k + 1 ≤ i) × (i < k + 1 + (n - (k + 1))) × (f i k ≡ true)) xs → (ltb 0 (length xs) && eqb (get_or (map (in_column k) xs ++ rest) 0 origin).row k) ≡ false
      past [] rest all = refl
      past (x ∷ xs) rest all =
          let low = all.0.0 in
          and_right (ltb 0 (length (x ∷ xs))) (eqb x k) (ne_eqb x k (λ same. omega arith))

      here : (b : Bool) (xs : List ℕ) (rest : List Entry) → All (λ i. (k + 1 ≤ i) × (i < k + 1 + (n - (k + 1))) × (f i k ≡ true)) xs → (ltb 0 (length (cond b (k ∷ xs) xs)) && eqb (get_or (map (in_column k) (cond b (k ∷ xs) xs) ++ rest) 0 origin).row k) ≡ b
      here true xs rest all = and_from (ltb 0 (length (k ∷ xs))) (eqb k k) (lt-ltb 0 (length (k ∷ xs)) (omega arith)) (eq-eqb k k refl)
      here false xs rest all = past xs rest all

  -- a place of column k is at most that at which it ends
  pub place_within : (i k : ℕ) → i ≤ n → stored_place f n i k ≤ start f n (k + 1)
  place_within i k inside =
      let two = ap length (kept_split (λ r. f r k) i n inside) ∙ length-append (filter (λ r. f r k) (range_with_len 0 i)) (filter (λ r. f r k) (range_with_len i (n - i))) in
      omega (arith, start_more k, two)

  pub row_below : (k t : ℕ) → t < length (rows_of f n k) → (get_or (rows_of f n k) t 0 < n) × (f (get_or (rows_of f n k) t 0) k ≡ true)
  row_below k t h =
      let all = All-get_or (λ i. (0 ≤ i) × (i < 0 + n) × (f i k ≡ true)) (rows_of f n k) t 0 h (kept_within (λ i. f i k) n 0) in
      (omega (arith, all.1), all.2)
