-- The rows and columns of a network sheet, read side by side, are its entries. Assumes nothing.
use Rattle.std.proofs.Common.{◌≡◌, ℕ, zero, suc, ◌+◌, ◌-◌, ◌*◌, ◌/◌, ◌≤◌, List, ◌∷◌, map, length, refl, ap, ◌∙◌, arith}
use Rattle.std.specs.List.{range_with_len}
use Rattle.network.specs.declared.entries.EntryReader.{EntryReader}
use Rattle.network.specs.Entries.{entries_of}
use Rattle.network.specs.EntryReading.{paired, entries_left}
use Rattle.network.specs.Words.{word, words, words_from}

paired_by : (f g : ℕ → ℕ) (a m n : ℕ) → n ≤ m → paired (map f (range_with_len a m)) (map g (range_with_len a n)) ≡ map (λ i. record { column = g i; row = f i }) (range_with_len a n)
paired_by f g a zero zero few = refl
paired_by f g a zero (suc n) few = absurd (omega arith)
paired_by f g a (suc m) zero few = refl
paired_by f g a (suc m) (suc n) few =
    let later = paired_by f g (a + 1) m n (omega arith) in
    λ d. record { column = g a; row = f a } ∷ later d

-- a reader that starts at the rows and at the columns
pub all_entries : (bytes : List ℕ) (e : ℕ) (x : EntryReader) → length bytes ≡ 4 + 4 * e → x.rows.bytes.now ≡ bytes → x.rows.at ≡ 4 → x.columns.bytes.now ≡ bytes → x.columns.at ≡ 4 + 2 * e → entries_left x ≡ entries_of bytes e
all_entries bytes e x long row_bytes row_at column_bytes column_at =
    let count : (length bytes - (4 + 2 * e)) / 2 ≡ e = omega arith in
    (λ d. paired (words_from (row_bytes d) (row_at d)) (words_from (column_bytes d) (column_at d)))
    ∙ ap (λ (n : ℕ). paired (words_from bytes 4) (words bytes (4 + 2 * e) n)) count
    ∙ paired_by (λ t. word bytes (4 + 2 * t)) (λ t. word bytes (4 + 2 * e + 2 * t)) 0 ((length bytes - 4) / 2) e (omega arith)

pub first_pair : (r k : ℕ) (rows columns rows' columns' : List ℕ) → rows ≡ r ∷ rows' → columns ≡ k ∷ columns' → paired rows columns ≡ record { column = k; row = r } ∷ paired rows' columns'
first_pair r k rows columns rows' columns' some_row some_column = λ d. paired (some_row d) (some_column d)
