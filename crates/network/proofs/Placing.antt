-- The sheet's entries and those of the permuted matrix correspond. Assumes nothing.
use Rattle.std.proofs.Common.{◌≡◌, ℕ, zero, suc, ◌+◌, ◌<◌, true, false, ◌&&◌, eqb, ltb, ◌⊎◌, List, [], ◌∷◌, length, get_or, vec_items, vec_len, sym, refl, ap, ◌∙◌, subst, inl, inr, ⊎_elim, add-one, arith}
use Rattle.std.proofs.lemmas.Bool.{cases_eq, eq-eqb, eqb-true, ltb-true, lt-ltb, and_parts, and_from, or_left, or_right, or_cases, both_ways}
use Rattle.network.specs.declared.entries.Entry.{Entry}
use Rattle.network.specs.declared.matrices.Permuted.{Permuted}
use Rattle.network.specs.Entries.{after, origin}
use Rattle.network.specs.NetworkSheet.{pattern}
use Rattle.network.specs.OrderSheet.{orders}
use Rattle.network.specs.Permutations.{position}
use Rattle.network.specs.Permuted.{has_entry, permuted, placed_at, OneToOne}

-- ---- a search through the entries
pub has_there : (xs : List Entry) (t : ℕ) → t < length xs → has_entry xs (get_or xs t origin).row (get_or xs t origin).column ≡ true
has_there [] t h = absurd (omega arith)
has_there (x ∷ xs) zero h = or_left _ _ (and_from _ _ (eq-eqb x.row x.row refl) (eq-eqb x.column x.column refl))
has_there (x ∷ xs) (suc t) h = or_right _ _ (has_there xs t (omega arith))

pub has_found : (xs : List Entry) (r c : ℕ) → has_entry xs r c ≡ true → (t : ℕ) × (t < length xs) × ((get_or xs t origin).row ≡ r) × ((get_or xs t origin).column ≡ c)
has_found [] r c e = absurd (both_ways false refl e)
has_found (x ∷ xs) r c e =
    ⊎_elim
    (λ (here : (eqb x.row r && eqb x.column c) ≡ true).
    let two = and_parts (eqb x.row r) (eqb x.column c) here in
    (0, omega arith, eqb-true x.row r two.0, eqb-true x.column c two.1))
    (λ (later : has_entry xs r c ≡ true).
    let rest = has_found xs r c later in
    (suc rest.0, omega (arith, rest.1), rest.2, rest.3))
    (or_cases _ _ e)

-- ---- entries that rise
abbrev Before : Entry → Entry → Type 0
Before y x = (y.column < x.column) ⊎ ((y.column ≡ x.column) × (y.row < x.row))

before_from : (x y : Entry) → after x y ≡ true → Before y x
before_from x y e =
    ⊎_elim
    (λ (left : ltb y.column x.column ≡ true). inl (ltb-true _ _ left))
    (λ (same : (eqb y.column x.column && ltb y.row x.row) ≡ true).
    let two = and_parts (eqb y.column x.column) (ltb y.row x.row) same in
    inr (eqb-true _ _ two.0, ltb-true _ _ two.1))
    (or_cases _ _ e)

before_trans : (x y z : Entry) → Before x y → Before y z → Before x z
before_trans x y z a b =
    ⊎_elim
    (λ (p : x.column < y.column).
    ⊎_elim (λ (q : y.column < z.column). inl (omega arith)) (λ (q : (y.column ≡ z.column) × (y.row < z.row)). inl (omega (arith, q.0))) b)
    (λ (p : (x.column ≡ y.column) × (x.row < y.row)).
    ⊎_elim
    (λ (q : y.column < z.column). inl (omega (arith, p.0)))
    (λ (q : (y.column ≡ z.column) × (y.row < z.row)). inr (p.0 ∙ q.0, omega (arith, p.1, q.1)))
    b)
    a

never_before : (x y : Entry) → x.row ≡ y.row → x.column ≡ y.column → Before x y → ⊥
never_before x y r c b = ⊎_elim (λ (p : x.column < y.column). omega arith) (λ (p : (x.column ≡ y.column) × (x.row < y.row)). omega (arith, p.1)) b

module _ (xs : List Entry) (len : ℕ) (rising : (t : ℕ) → t + 1 < len → after (get_or xs (t + 1) origin) (get_or xs t origin) ≡ true) where
  far : (s t : ℕ) → s < t → t < len → Before (get_or xs s origin) (get_or xs t origin)
  far s zero below inside = absurd (omega arith)
  far s (suc t) below inside =
      let step : Before (get_or xs t origin) (get_or xs (suc t) origin) =
      subst (λ (k : ℕ). Before (get_or xs t origin) (get_or xs k origin)) (add-one t) (before_from _ _ (rising t (omega arith))) in
      ⊎_elim
      (λ (here : s ≡ t). subst (λ (k : ℕ). Before (get_or xs k origin) (get_or xs (suc t) origin)) (sym here) step)
      (λ (apart : s ≡ t → ⊥). before_trans _ _ _ (far s t (omega arith) (omega arith)) step)
      (cases_eq s t)

-- ---- a network and an order of the same size
module _ (m : Permuted) where
  abbrev n : ℕ
  n = m.network.n

  abbrev p : List ℕ
  p = vec_items m.order.rows.numbers

  abbrev q : List ℕ
  q = vec_items m.order.columns.numbers

  abbrev xs : List Entry
  xs = vec_items m.network.entries

  pub p_size : vec_len m.order.rows.numbers ≡ n
  p_size = m.same_size

  pub q_size : vec_len m.order.columns.numbers ≡ n
  q_size = sym m.order.same ∙ m.same_size

  pub long : length xs ≡ vec_len m.network.entries
  long = sym m.network.entries.ok.0

  pub row_stands : (v : ℕ) → v < n → (position p v < n) × (get_or p (position p v) 0 ≡ v)
  row_stands v below = let at = m.order.rows.stands v (omega (arith, p_size)) in (omega (arith, at.0, p_size), at.1)

  pub column_stands : (v : ℕ) → v < n → (position q v < n) × (get_or q (position q v) 0 ≡ v)
  column_stands v below = let at = m.order.columns.stands v (omega (arith, q_size)) in (omega (arith, at.0, q_size), at.1)

  -- each entry lies inside
  pub row_inside : (t : ℕ) → t < length xs → (get_or xs t origin).row < n
  row_inside t h = (m.network.inside t (omega (arith, long))).0

  pub column_inside : (t : ℕ) → t < length xs → (get_or xs t origin).column < n
  column_inside t h = (m.network.inside t (omega (arith, long))).1

  in_B : (t : ℕ) → t < length xs → permuted (pattern m.network) (orders m.order) (position p (get_or xs t origin).row) (position q (get_or xs t origin).column) ≡ true
  in_B t h =
      let r = row_stands (get_or xs t origin).row (row_inside t h) in
      let c = column_stands (get_or xs t origin).column (column_inside t h) in
      and_from _ _ (and_from _ _ (lt-ltb _ _ r.0) (lt-ltb _ _ c.0))
      (ap (λ (a : ℕ). has_entry xs a (get_or q (position q (get_or xs t origin).column) 0)) r.1
      ∙ ap (λ (b : ℕ). has_entry xs (get_or xs t origin).row b) c.1 ∙ has_there xs t h)

  from_sheet : (i k : ℕ) → permuted (pattern m.network) (orders m.order) i k ≡ true → (t : ℕ) × (t < length xs) × (position p (get_or xs t origin).row ≡ i) × (position q (get_or xs t origin).column ≡ k)
  from_sheet i k e =
      let two = and_parts (ltb i n && ltb k n) (has_entry xs (get_or p i 0) (get_or q k 0)) e in
      let in_size = and_parts (ltb i n) (ltb k n) two.0 in
      let there = has_found xs (get_or p i 0) (get_or q k 0) two.1 in
      (there.0, there.1, ap (position p) there.2 ∙ m.order.rows.back i (omega (arith, p_size, ltb-true i n in_size.0)), ap (position q) there.3 ∙ m.order.columns.back k (omega (arith, q_size, ltb-true k n in_size.1)))

  apart : (s t : ℕ) → s < t → t < length xs → placed_at (pattern m.network) (orders m.order) s ≡ placed_at (pattern m.network) (orders m.order) t → ⊥
  apart s t below inside same =
      let rows = sym (row_stands _ (row_inside s (omega arith))).1 ∙ ap (λ (x : Entry). get_or p x.row 0) same ∙ (row_stands _ (row_inside t inside)).1 in
      let columns = sym (column_stands _ (column_inside s (omega arith))).1 ∙ ap (λ (x : Entry). get_or q x.column 0) same ∙ (column_stands _ (column_inside t inside)).1 in
      never_before _ _ rows columns (far xs (vec_len m.network.entries) m.network.rising s t below (omega (arith, long)))

  pub one_to_one : OneToOne (pattern m.network) (orders m.order)
  one_to_one = record { in_B = in_B; from_sheet = from_sheet; apart = apart }
