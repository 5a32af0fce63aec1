-- A filled pattern with one column more. Assumes nothing.
use Rattle.std.proofs.Common.{◌≡◌, ℕ, ◌+◌, ◌<◌, Bool, false, ltb, List, [], ◌∷◌, ◌++◌, map, length, get_or, filter, sym, ap, ◌∙◌, arith}
use Rattle.std.specs.List.{range_with_len}
use Rattle.std.proofs.lemmas.List.FromFn.{get_or-map-range_with_len, length-map-range_with_len, map-range_with_len_more}
use Rattle.std.proofs.lemmas.List.{map_push}
use Rattle.network.specs.declared.entries.Entry.{Entry}
use Rattle.elimination.specs.Fill.{Places}
use Rattle.elimination.specs.Plans.{rows_of, in_column, stored, start, stored_place}
use Rattle.elimination.specs.Storage.{bounds_of, Stored}
use Rattle.elimination.proofs.Storing.{kept_same, stored_more}
use Rattle.symbolic.specs.Columns.{bounds}
use Rattle.symbolic.specs.declared.patterns.Column.{Column}
use Rattle.symbolic.specs.Marks.{marks_in, marked_rows}
use Rattle.symbolic.proofs.Counting.{above_are}

module _ (f : Places) (n k : ℕ) (marks : List Bool) (inside : k < length marks) (marks_are : marks ≡ marks_in f n k) where
  long : length marks ≡ n
  long = ap length marks_are ∙ length-map-range_with_len (λ i. f i k) 0 n

  agrees : (i : ℕ) → i < n → get_or marks i false ≡ f i k
  agrees i h = ap (λ (xs : List Bool). get_or xs i false) marks_are ∙ get_or-map-range_with_len (λ i. f i k) 0 n i i false h (omega arith)

  rows_are : marked_rows marks ≡ rows_of f n k
  rows_are = ap (λ (x : ℕ). filter (λ i. get_or marks i false) (range_with_len 0 x)) long ∙ kept_same (λ i. get_or marks i false) (λ i. f i k) n agrees

  module _ (old entries : List Entry) (before columns : List Column) (column : Column)
      (entries_are : entries ≡ old ++ map (in_column k) (marked_rows marks))
      (columns_are : columns ≡ before ++ column ∷ [])
      (begins : column.start ≡ length old)
      (diagonal : column.diagonal ≡ length old + length (filter (λ entry. ltb entry.row k) (map (in_column k) (marked_rows marks))))
      (ends : column.end ≡ length entries)
      (so_far : Stored f n k old (map bounds before)) where
    entries_stored : entries ≡ stored f n (k + 1)
    entries_stored = entries_are ∙ (λ d. so_far.entries_are d ++ map (in_column k) (rows_are d)) ∙ sym (stored_more f n k)

    column_stored : bounds column ≡ bounds_of f n k
    column_stored =
        let start_is : column.start ≡ start f n k = begins ∙ ap length so_far.entries_are in
        let diagonal_is : column.diagonal ≡ stored_place f n k k = diagonal ∙ (λ d. length (so_far.entries_are d) + above_are f n k k _ (omega (arith, long)) (ap (map (in_column k)) rows_are) d) in
        let end_is : column.end ≡ start f n (k + 1) = ends ∙ ap length entries_stored in
        λ d. record { start = start_is d; diagonal = diagonal_is d; end = end_is d }

    pub added : Stored f n (k + 1) entries (map bounds columns)
    added = record {
      entries_are = entries_stored;
      columns_are =
          ap (map bounds) columns_are ∙ map_push bounds before column
          ∙ (λ d. so_far.columns_are d ++ column_stored d ∷ [])
          ∙ sym (map-range_with_len_more (bounds_of f n) 0 k k (omega arith));
    }
