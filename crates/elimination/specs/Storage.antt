-- How the filled pattern is stored: its entries column after column, and of each column the places at which it begins, has its diagonal and ends. Assumes nothing.
use Rattle.std.specs.Prelude.{◌≡◌, ℕ, ◌+◌, List, map}
use Rattle.std.specs.List.{range_with_len}
use Rattle.network.specs.declared.entries.Entry.{Entry}
use Rattle.elimination.specs.Fill.{Places}
use Rattle.elimination.specs.Plans.{stored, start, stored_place}

-- where a column stands among the stored entries
pub record Bounds : Type 0 where
  pub start : ℕ
  -- the place of its diagonal, filled or not
  pub diagonal : ℕ
  pub end : ℕ

abbrev pub bounds_of : Places → ℕ → ℕ → Bounds
bounds_of f n j = record { start = start f n j; diagonal = stored_place f n j j; end = start f n (j + 1) }

abbrev pub row_of : Entry → ℕ
row_of x = x.row

-- the columns below k of a filled pattern of n columns
pub record Stored (f : Places) (n k : ℕ) (entries : List Entry) (columns : List Bounds) : Type 0 where
  pub entries_are : entries ≡ stored f n k
  pub columns_are : columns ≡ map (bounds_of f n) (range_with_len 0 k)
