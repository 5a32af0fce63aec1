-- The marks of one column: whether each row is filled. Assumes nothing.
use Rattle.std.specs.Prelude.{ℕ, Bool, false, List, map, length, filter, slice_index_or}
use Rattle.std.specs.List.{range_with_len}
use Rattle.elimination.specs.Fill.{Places}

-- whether each row of column k is filled
abbrev pub marks_in : Places → ℕ → ℕ → List Bool
marks_in f n k = map (λ i. f i k) (range_with_len 0 n)

-- the rows that are marked, rising
abbrev pub marked_rows : List Bool → List ℕ
marked_rows marks = filter (λ i. slice_index_or marks i false) (range_with_len 0 (length marks))
