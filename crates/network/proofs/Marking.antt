-- The marks of the permuted matrix's entries, row by row. Assumes nothing.
use Rattle.std.proofs.Common.{◌≡◌, ℕ, suc, ◌+◌, ◌*◌, ◌/◌, ◌%◌, ◌<◌, ◌≤◌, Bool, true, false, ◌&&◌, ◌||◌, eqb, List, [], ◌∷◌, ◌++◌, map, length, get_or, take, set, Some, None, vec_items, vec_len, Option, sym, refl, ap, ◌∙◌, subst, ⊎_elim, arith}
use Rattle.std.proofs.lemmas.Nat.{mul-add-lt, div-mul-add, mod-mul-add, div_below, mod_below, div-add-mod'}
use Rattle.std.proofs.lemmas.List.FromFn.{fill_by_all}
use Rattle.std.proofs.lemmas.List.{map_more, length-set, get_or-set_same, get_or-set_other, take_all}
use Rattle.std.proofs.lemmas.Bool.{cases_eq, eq-eqb, eqb-true, lt-ltb, and_from, and_parts, or_right, cases_Bool, cond-true}
use Rattle.network.specs.declared.entries.Entry.{Entry}
use Rattle.network.specs.declared.matrices.Permuted.{Permuted}
use Rattle.network.specs.Entries.{origin}
use Rattle.network.specs.NetworkSheet.{pattern}
use Rattle.network.specs.OrderSheet.{Orders, orders}
use Rattle.network.specs.Permutations.{position}
use Rattle.network.specs.Permuted.{has_entry, permuted, placed, placed_at, place_in, place_told, marks_of}
use Rattle.network.proofs.Permuting.{or_false, position_is}
use Rattle.network.proofs.Placing.{p_size, q_size, row_inside, column_inside, row_stands, column_stands}

abbrev at : Entry → ℕ → ℕ → Bool
at x r c = eqb x.row r && eqb x.column c

has_push : (xs : List Entry) (x : Entry) (r c : ℕ) → has_entry (xs ++ x ∷ []) r c ≡ (has_entry xs r c || at x r c)
has_push [] x r c = sym (or_false (at x r c) false refl)
has_push (y ∷ xs) x r c = elim (at y r c) as (λ b. (b || has_entry (xs ++ x ∷ []) r c) ≡ ((b || has_entry xs r c) || at x r c)) [ true ↦ refl | false ↦ has_push xs x r c ]

-- n columns, of which the first t entries' places are marked
pub record Marked (n : ℕ) (o : Orders) (xs : List Entry) (t : ℕ) (marks : List Bool) : Type 0 where
  pub whole : length marks ≡ n * n
  pub mark : (j : ℕ) → j < n * n → get_or marks j false ≡ has_entry (map (placed o) (take t xs)) (j / n) (j % n)

module _ (n : ℕ) (o : Orders) (xs : List Entry) (t : ℕ) (marks : List Bool) (so_far : Marked n o xs t marks) (more : t < length xs)
    (row_in : (placed o (get_or xs t origin)).row < n) (column_in : (placed o (get_or xs t origin)).column < n) where
  abbrev x : Entry
  x = placed o (get_or xs t origin)

  abbrev here : ℕ
  here = x.row * n + x.column

  pub inside : here < n * n
  inside = mul-add-lt x.row n x.column n row_in column_in

  not_at : (j : ℕ) → (j ≡ here → ⊥) → at x (j / n) (j % n) ≡ false
  not_at j apart =
      ⊎_elim
      (λ (met : at x (j / n) (j % n) ≡ true).
      let two = and_parts (eqb x.row (j / n)) (eqb x.column (j % n)) met in
      let row = sym (eqb-true x.row (j / n) two.0) in
      let column = sym (eqb-true x.column (j % n) two.1) in
      absurd (apart (sym (div-add-mod' j n) ∙ (λ i. row i * n + column i))))
      (λ (other : at x (j / n) (j % n) ≡ false). other)
      (cases_Bool (at x (j / n) (j % n)))

  one : (j : ℕ) → j < n * n → get_or (set marks here true) j false ≡ (has_entry (map (placed o) (take t xs)) (j / n) (j % n) || at x (j / n) (j % n))
  one j h =
      ⊎_elim
      (λ (same : j ≡ here).
      let row = eq-eqb x.row (j / n) (sym (ap (λ (k : ℕ). k / n) same ∙ div-mul-add x.row n x.column column_in)) in
      let column = eq-eqb x.column (j % n) (sym (ap (λ (k : ℕ). k % n) same ∙ mod-mul-add x.row n x.column column_in)) in
      ap (λ (k : ℕ). get_or (set marks here true) k false) same ∙ get_or-set_same marks here true false (subst (λ (k : ℕ). here < k) (sym so_far.whole) inside)
      ∙ sym (or_right _ _ (and_from _ _ row column)))
      (λ (apart : j ≡ here → ⊥).
      get_or-set_other marks here j true false apart ∙ so_far.mark j h
      ∙ or_false _ _ (not_at j apart))
      (cases_eq j here)

  pub marked_more : Marked n o xs (t + 1) (set marks here true)
  marked_more = record {
    whole = length-set marks here true ∙ so_far.whole;
    mark = λ j h. one j h ∙ sym (ap (λ (ys : List Entry). has_entry ys (j / n) (j % n)) (map_more (placed o) xs t origin more) ∙ has_push (map (placed o) (take t xs)) x (j / n) (j % n));
  }

-- a search through the places is a search through the entries
has_placed : (n : ℕ) (o : Orders) (i k : ℕ) →
    ((v : ℕ) → v < n → eqb (position o.rows v) i ≡ eqb v (get_or o.rows i 0)) →
    ((v : ℕ) → v < n → eqb (position o.columns v) k ≡ eqb v (get_or o.columns k 0)) →
    (xs : List Entry) → ((t : ℕ) → t < length xs → ((get_or xs t origin).row < n) × ((get_or xs t origin).column < n)) →
    has_entry (map (placed o) xs) i k ≡ has_entry xs (get_or o.rows i 0) (get_or o.columns k 0)
has_placed n o i k rows columns [] within = refl
has_placed n o i k rows columns (x ∷ xs) within =
    let row = rows x.row (within 0 (omega arith)).0 in
    let column = columns x.column (within 0 (omega arith)).1 in
    let rest = has_placed n o i k rows columns xs (λ t h. within (suc t) (omega arith)) in
    λ d. (row d && column d) || rest d

-- all entries marked
module _ (m : Permuted) where
  rows_match : (i : ℕ) → i < m.network.n → (v : ℕ) → v < m.network.n → eqb (position (orders m.order).rows v) i ≡ eqb v (get_or (orders m.order).rows i 0)
  rows_match i inside v below = position_is m.order.rows v i (omega (arith, p_size m)) (omega (arith, p_size m))

  columns_match : (k : ℕ) → k < m.network.n → (v : ℕ) → v < m.network.n → eqb (position (orders m.order).columns v) k ≡ eqb v (get_or (orders m.order).columns k 0)
  columns_match k inside v below = position_is m.order.columns v k (omega (arith, q_size m)) (omega (arith, q_size m))

  pub marked_all : (marks : List Bool) (t : ℕ) → length (vec_items m.network.entries) ≤ t → Marked m.network.n (orders m.order) (vec_items m.network.entries) t marks → marks ≡ marks_of (pattern m.network) (orders m.order)
  marked_all marks t end marked =
      let n = m.network.n in
      let o = orders m.order in
      let xs = vec_items m.network.entries in
      fill_by_all (λ j. permuted (pattern m.network) o (j / n) (j % n)) marks (n * n) false marked.whole
      (λ j h.
      let some : 0 < n = omega (arith, m.network.columns_fit.0) in
      let row : j / n < n = div_below j n n some h in
      let column : j % n < n = mod_below j n some in
      marked.mark j h
      ∙ ap (λ (ys : List Entry). has_entry (map (placed o) ys) (j / n) (j % n)) (take_all t xs end)
      ∙ has_placed n o (j / n) (j % n) (rows_match (j / n) row) (columns_match (j % n) column) xs (λ s inside. (row_inside m s inside, column_inside m s inside))
      ∙ ap (λ (b : Bool). b && has_entry xs (get_or o.rows (j / n) 0) (get_or o.columns (j % n) 0)) (sym (and_from _ _ (lt-ltb _ _ row) (lt-ltb _ _ column))))

  -- the place of an entry lies inside
  pub placed_inside : (t : ℕ) → t < length (vec_items m.network.entries) → ((placed (orders m.order) (get_or (vec_items m.network.entries) t origin)).row < m.network.n) × ((placed (orders m.order) (get_or (vec_items m.network.entries) t origin)).column < m.network.n)
  placed_inside t h = ((row_stands m _ (row_inside m t h)).0, (column_stands m _ (column_inside m t h)).0)

  answered : (t : ℕ) → t < length (vec_items m.network.entries) → (o : Option Entry) → o ≡ place_told (pattern m.network) (orders m.order) t → o ≡ Some (placed_at (pattern m.network) (orders m.order) t)
  answered t h o is = is ∙ cond-true _ _ _ (lt-ltb _ _ h)

  -- the entry that is told is the one that was placed
  pub told : (t : ℕ) (x : Entry) → t < length (vec_items m.network.entries) → Some x ≡ place_told (pattern m.network) (orders m.order) t → x ≡ placed_at (pattern m.network) (orders m.order) t
  told t x h is = let e = answered t h (Some x) is in cc

  -- where the order says that an entry in a copy of the list stands
  pub placed_in : (xs : List Entry) (t : ℕ) → xs ≡ vec_items m.network.entries → t < length (vec_items m.network.entries) → place_in (vec_len m.order.rows.numbers) (orders m.order) (get_or xs t origin) ≡ Some (placed_at (pattern m.network) (orders m.order) t)
  placed_in xs t same h =
      let row : (get_or (vec_items m.network.entries) t origin).row < vec_len m.order.rows.numbers = omega (arith, row_inside m t h, p_size m) in
      let column : (get_or (vec_items m.network.entries) t origin).column < vec_len m.order.rows.numbers = omega (arith, column_inside m t h, p_size m) in
      ap (λ (ys : List Entry). place_in (vec_len m.order.rows.numbers) (orders m.order) (get_or ys t origin)) same
      ∙ cond-true _ _ _ (and_from _ _ (lt-ltb _ _ row) (lt-ltb _ _ column))

  -- the same is told of it
  pub asked : (xs : List Entry) (t : ℕ) → xs ≡ vec_items m.network.entries → t < length (vec_items m.network.entries) → place_in (vec_len m.order.rows.numbers) (orders m.order) (get_or xs t origin) ≡ place_told (pattern m.network) (orders m.order) t
  asked xs t same h = placed_in xs t same h ∙ sym (answered t h _ refl)

  pub always : (t : ℕ) → t < length (vec_items m.network.entries) → None ≡ place_told (pattern m.network) (orders m.order) t → ⊥
  always t h is = let e = answered t h None is in cc

  -- one turn: the place that was told is marked
  pub step : (n t : ℕ) (marks : List Bool) (x : Entry) → n ≡ m.network.n → t < length (vec_items m.network.entries) → Some x ≡ place_told (pattern m.network) (orders m.order) t → Marked n (orders m.order) (vec_items m.network.entries) t marks → (x.row * n + x.column < length marks) × Marked n (orders m.order) (vec_items m.network.entries) (t + 1) (set marks (x.row * n + x.column) true)
  step n t marks x size h is marked =
      let o = orders m.order in
      let xs = vec_items m.network.entries in
      let same = told t x h is in
      let row : (placed o (get_or xs t origin)).row < n = subst (λ (k : ℕ). (placed o (get_or xs t origin)).row < k) (sym size) (placed_inside t h).0 in
      let column : (placed o (get_or xs t origin)).column < n = subst (λ (k : ℕ). (placed o (get_or xs t origin)).column < k) (sym size) (placed_inside t h).1 in
      subst (λ (y : Entry). (y.row * n + y.column < length marks) × Marked n o xs (t + 1) (set marks (y.row * n + y.column) true)) (sym same)
      (subst (λ (k : ℕ). (placed o (get_or xs t origin)).row * n + (placed o (get_or xs t origin)).column < k) (sym marked.whole) (inside n o xs t marks marked h row column), marked_more n o xs t marks marked h row column)

  pub end : (n t : ℕ) (marks : List Bool) → n ≡ m.network.n → length (vec_items m.network.entries) ≤ t → Marked n (orders m.order) (vec_items m.network.entries) t marks → marks ≡ marks_of (pattern m.network) (orders m.order)
  end n t marks size past marked = marked_all marks t past (subst (λ (k : ℕ). Marked k (orders m.order) (vec_items m.network.entries) t marks) size marked)
