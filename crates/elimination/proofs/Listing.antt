-- The stored entries are the filled places, each once, by column, then by row. Assumes nothing.
use Rattle.std.proofs.Common.{◌≡◌, ℕ, zero, suc, ◌+◌, ◌-◌, ◌<◌, ◌≤◌, Bool, true, cond, ltb, List, [], ◌∷◌, ◌++◌, map, length, get_or, filter, sym, refl, ap, ◌∙◌, arith}
use Rattle.std.specs.List.{range_with_len, AllByRecursion as All}
use Rattle.std.proofs.ByRecursion.{All-append, All-from_get_or, All-get_or, All-map, All-weaker}
use Rattle.std.proofs.lemmas.List.{append_assoc, map-append, length-append, length-map, get_or_at}
use Rattle.std.proofs.lemmas.Bool.{lt-ltb, eq-eqb, and_from, or_left, or_right}
use Rattle.network.specs.declared.entries.Entry.{Entry}
use Rattle.network.specs.Entries.{after, origin}
use Rattle.elimination.specs.Fill.{Places}
use Rattle.elimination.specs.Laws.{Listed}
use Rattle.elimination.specs.Plans.{rows_of, in_column, stored, start, stored_place}
use Rattle.elimination.proofs.Ordered.{Ordered, ordered_append, ordered_among, ordered_map, ordered_get_or, kept_rises}
use Rattle.elimination.proofs.Storing.{kept_more, kept_split, kept_within, stored_more, stored_splits}

abbrev Follows : Entry → Entry → Type 0
Follows x y = after y x ≡ true

follows_column : (x : Entry) (k i : ℕ) → x.column < k → Follows x (in_column k i)
follows_column x k i less = or_left _ _ (lt-ltb x.column k less)

follows_row : (k i j : ℕ) → i < j → Follows (in_column k i) (in_column k j)
follows_row k i j less = or_right (ltb k k) _ (and_from _ _ (eq-eqb k k refl) (lt-ltb i j less))

module _ (f : Places) (n : ℕ) where
  abbrev Inside : ℕ → Entry → Type 0
  Inside k x = (x.row < n) × (x.column < k) × (f x.row x.column ≡ true)

  abbrev Row : ℕ → ℕ → Type 0
  Row k i = (0 ≤ i) × (i < 0 + n) × (f i k ≡ true)

  column_inside : (k : ℕ) → All (Inside (suc k)) (map (in_column k) (rows_of f n k))
  column_inside k =
      All-map (Inside (suc k)) (in_column k) (rows_of f n k)
      (All-weaker (Row k) (λ i. Inside (suc k) (in_column k i)) (λ i h. (omega (arith, h.1), omega arith, h.2)) (rows_of f n k) (kept_within (λ i. f i k) n 0))

  all_inside : (k : ℕ) → All (Inside k) (stored f n k)
  all_inside zero = tt
  all_inside (suc k) =
      All-append (Inside (suc k)) (stored f n k) (map (in_column k) (rows_of f n k))
      (All-weaker (Inside k) (Inside (suc k)) (λ x h. (h.0, omega (arith, h.1), h.2)) (stored f n k) (all_inside k))
      (column_inside k)

  column_ordered : (k : ℕ) → Ordered Follows (map (in_column k) (rows_of f n k))
  column_ordered k =
      ordered_map Follows (in_column k) (rows_of f n k)
      (ordered_among ◌<◌ (Row k) (λ i j. Follows (in_column k i) (in_column k j)) (λ i j _ _ less. follows_row k i j less) (rows_of f n k)
      (kept_within (λ i. f i k) n 0) (kept_rises (λ i. f i k) n))

  pub stored_ordered : (k : ℕ) → Ordered Follows (stored f n k)
  stored_ordered zero = tt
  stored_ordered (suc k) =
      ordered_append Follows (stored f n k) (map (in_column k) (rows_of f n k)) (stored_ordered k) (column_ordered k)
      (All-weaker (Inside k) (λ x. All (Follows x) (map (in_column k) (rows_of f n k)))
      (λ x h. All-map (Follows x) (in_column k) (rows_of f n k) (All-from_get_or (λ i. Follows x (in_column k i)) (rows_of f n k) 0 (λ t _. follows_column x k (get_or (rows_of f n k) t 0) h.1)))
      (stored f n k) (all_inside k))

  -- the rows of column k, parted at a filled one
  rows_part : (i k : ℕ) → i < n → f i k ≡ true → (rest : List ℕ) × (rows_of f n k ≡ filter (λ r. f r k) (range_with_len 0 i) ++ i ∷ rest)
  rows_part i k below on =
      let p : ℕ → Bool = λ r. f r k in
      let front = filter p (range_with_len 0 i) in
      let rest = filter p (range_with_len (i + 1) (n - (i + 1))) in (
        rest,
        kept_split p (i + 1) n (omega arith) ∙ ap (λ (xs : List ℕ). xs ++ rest) (kept_more p i ∙ ap (λ (b : Bool). front ++ cond b (i ∷ []) []) on)
            ∙ append_assoc front (i ∷ []) rest,
      )

  -- the stored entries, parted at a filled place
  stored_part : (i k : ℕ) → i < n → k < n → f i k ≡ true → (rest : List Entry) × (stored f n n ≡ (stored f n k ++ map (in_column k) (filter (λ r. f r k) (range_with_len 0 i))) ++ in_column k i ∷ rest)
  stored_part i k below inside on =
      let front = filter (λ r. f r k) (range_with_len 0 i) in
      let column = rows_part i k below on in
      let more = stored_splits f n n (k + 1) (omega arith) in
      let here = map (in_column k) front in
      let behind = map (in_column k) column.0 in (
        behind ++ more.0,
        more.1 ∙ ap (λ (xs : List Entry). xs ++ more.0) (stored_more f n k)
            ∙ ap (λ (xs : List ℕ). (stored f n k ++ map (in_column k) xs) ++ more.0) column.1
            ∙ ap (λ (xs : List Entry). (stored f n k ++ xs) ++ more.0) (map-append (in_column k) front (i ∷ column.0))
            ∙ ap (λ (xs : List Entry). xs ++ more.0) (sym (append_assoc (stored f n k) here (in_column k i ∷ behind)))
            ∙ append_assoc (stored f n k ++ here) (in_column k i ∷ behind) more.0,
      )

  stands : (i k : ℕ) → i < n → k < n → f i k ≡ true → (stored_place f n i k < length (stored f n n)) × (get_or (stored f n n) (stored_place f n i k) origin ≡ in_column k i)
  stands i k below inside on =
      let front = filter (λ r. f r k) (range_with_len 0 i) in
      let before = stored f n k ++ map (in_column k) front in
      let whole = stored_part i k below inside on in
      let long : length before ≡ stored_place f n i k = length-append (stored f n k) (map (in_column k) front) ∙ ap (λ (x : ℕ). start f n k + x) (length-map front (in_column k)) in (
        omega (arith, ap length whole.1 ∙ length-append before (in_column k i ∷ whole.0), long),
        ap (λ (xs : List Entry). get_or xs (stored_place f n i k) origin) whole.1 ∙ get_or_at before (in_column k i) whole.0 origin (stored_place f n i k) long,
      )

  pub listed : Listed f n (stored f n n)
  listed = record {
    stands = stands;
    only = λ t inside. All-get_or (Inside n) (stored f n n) t origin inside (all_inside n);
    rising = λ t inside. ordered_get_or Follows (stored f n n) origin (stored_ordered n) t (t + 1) (omega arith) inside;
  }
