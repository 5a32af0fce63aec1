-- A sheet's numbers: two bytes each, the low byte first. Assumes nothing.
use Rattle.std.specs.Prelude.{ℕ, ◌+◌, ◌-◌, ◌*◌, ◌/◌, cond, List, map, length, Some, None, Option, nat_le, slice_index}
use Rattle.std.specs.List.{range_with_len}

-- the number whose low byte stands at p
abbrev pub word : List ℕ → ℕ → ℕ
word bytes p = slice_index bytes p + 256 * slice_index bytes (p + 1)

-- what a reader at p gets
abbrev pub word_read : List ℕ → ℕ → Option ℕ
word_read bytes p = cond (nat_le (p + 2) (length bytes)) (Some (word bytes p)) None

-- where it stands then
abbrev pub past : List ℕ → ℕ → ℕ
past bytes p = cond (nat_le (p + 2) (length bytes)) (p + 2) p

-- count numbers one after another, the first at p
abbrev pub words : List ℕ → ℕ → ℕ → List ℕ
words bytes p count = map (λ t. word bytes (p + 2 * t)) (range_with_len 0 count)

-- all numbers from p on
abbrev pub words_from : List ℕ → ℕ → List ℕ
words_from bytes p = words bytes p ((length bytes - p) / 2)
