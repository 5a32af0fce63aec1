-- A filled pattern of n columns that holds those below m: what is read of column k. Assumes nothing.
use Rattle.std.proofs.Common.{◌≡◌, ℕ, ◌<◌, ◌≤◌, ◌&&◌, Bool, eqb, ltb, List, map, length, get_or, vec_items, vec_len, sym, ap, ◌∙◌, arith}
use Rattle.std.specs.List.{All, slice_range}
use Rattle.std.proofs.lemmas.List.FromFn.{get_or-map-range_with_len, length-map-range_with_len}
use Rattle.std.proofs.lemmas.List.{get_or-map, length-map}
use Rattle.network.specs.declared.entries.Entry.{Entry}
use Rattle.network.specs.Entries.{origin}
use Rattle.elimination.specs.Fill.{Places}
use Rattle.elimination.specs.Plans.{rows_of, awaited_by, in_column, stored, start}
use Rattle.elimination.specs.Storage.{Bounds, bounds_of, row_of}
use Rattle.elimination.proofs.Awaited.{awaited_law}
use Rattle.elimination.proofs.Storing.{awaited_stands, column_stands, diagonal_stands, row_below, rows_in_column}
use Rattle.symbolic.specs.Columns.{bounds}
use Rattle.symbolic.specs.declared.patterns.Column.{Column}
use Rattle.symbolic.specs.declared.patterns.Filled.{Filled}
use Rattle.symbolic.specs.Filling.{Holds}

module _ (f : Places) (n m : ℕ) (x : Filled) (h : Holds f n m x) where
  pub columns_long : length (vec_items x.columns) ≡ m
  columns_long = sym (length-map (vec_items x.columns) bounds) ∙ ap length h.columns_are ∙ length-map-range_with_len (bounds_of f n) 0 m

  pub columns_count : vec_len x.columns ≡ m
  columns_count = x.columns.ok.0 ∙ columns_long

  pub entries_long : vec_len x.entries ≡ start f n m
  entries_long = x.entries.ok.0 ∙ ap length h.entries_are

  -- where its columns, as they are lent, were all gone through
  pub through : (columns : List Column) → columns ≡ vec_items x.columns → (j : ℕ) → length columns ≤ j → j ≤ length columns → j ≡ m
  through columns lent j past within = omega (arith, past, within, ap length lent, columns_long)

  -- column k among them
  module _ (columns : List Column) (lent : columns ≡ vec_items x.columns) (k : ℕ) (more : k < length columns) where
    pub below : k < m
    below = omega (arith, more, ap length lent, columns_long)

    module _ (column : Column) (is : column ≡ get_or columns k column) where
      pub bounds_are : bounds column ≡ bounds_of f n k
      bounds_are =
          ap bounds is ∙ sym (get_or-map bounds columns k column (bounds column) more)
          ∙ ap (λ (bs : List Bounds). get_or bs k (bounds column)) (ap (map bounds) lent ∙ h.columns_are)
          ∙ get_or-map-range_with_len (bounds_of f n) 0 m k k (bounds column) below (omega arith)

      pub column_is : (xs : List Entry) → xs ≡ slice_range (vec_items x.entries) column.start column.end → xs ≡ map (in_column k) (rows_of f n k)
      column_is xs at = at ∙ (λ d. slice_range (h.entries_are d) (bounds_are d).start (bounds_are d).end) ∙ column_stands f n m k below

      pub awaited_is : k ≤ n → (entries : List Entry) → entries ≡ vec_items x.entries → slice_range entries column.start column.diagonal ≡ map (in_column k) (awaited_by f k)
      awaited_is within entries same = let all : entries ≡ stored f n m = same ∙ h.entries_are in (λ d. slice_range (all d) (bounds_are d).start (bounds_are d).diagonal) ∙ awaited_stands f n m k below within

      pub diagonal_is : k < n → (b : Bool) → b ≡ (ltb column.diagonal column.end && eqb (get_or (vec_items x.entries) column.diagonal origin).row k) → b ≡ f k k
      diagonal_is within b at =
          at ∙ (λ d. ltb (bounds_are d).diagonal (bounds_are d).end && eqb (get_or (h.entries_are d) (bounds_are d).diagonal origin).row k)
          ∙ diagonal_stands f n m k below within

-- ---- the rows of entries that stand in one column
module _ (k : ℕ) (xs : List Entry) (rows : List ℕ) (is : xs ≡ map (in_column k) rows) where
  pub rows_are : map row_of xs ≡ rows
  rows_are = ap (map row_of) is ∙ rows_in_column k rows

  pub rows_inside : (size : ℕ) → ((t : ℕ) → t < length rows → get_or rows t 0 < size) → All (λ entry. entry.row < size) xs
  rows_inside size inside t d below =
      let row : get_or (map row_of xs) t 0 ≡ (get_or xs t d).row = get_or-map row_of xs t d 0 below in
      let same : get_or (map row_of xs) t 0 ≡ get_or rows t 0 = ap (λ (ys : List ℕ). get_or ys t 0) rows_are in
      omega (arith, row, same, inside t (omega (arith, ap length rows_are, length-map xs row_of)))

-- the rows of a column lie inside
pub column_inside : (f : Places) (n k : ℕ) (xs : List Entry) → xs ≡ map (in_column k) (rows_of f n k) → All (λ entry. entry.row < n) xs
column_inside f n k xs is = rows_inside k xs (rows_of f n k) is n (λ t below. (row_below f n k t below).0)

-- awaited columns are smaller
pub awaited_inside : (f : Places) (k : ℕ) (xs : List Entry) → xs ≡ map (in_column k) (awaited_by f k) → All (λ entry. entry.row < k) xs
awaited_inside f k xs is = rows_inside k xs (awaited_by f k) is k (λ t below. ((awaited_law f k).only t below).0)
