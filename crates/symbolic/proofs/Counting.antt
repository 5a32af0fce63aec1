-- How many of a list pass a test. Assumes nothing.
use Rattle.std.proofs.Common.{◌≡◌, ℕ, ◌≤◌, Bool, cond, ltb, List, map, length, get_or, filter, refl, sym, ap, ◌∙◌}
use Rattle.std.specs.List.{range_with_len, sum}
use Rattle.std.proofs.lemmas.List.FromFn.{fill_by_all}
use Rattle.std.proofs.lemmas.List.Sums.{length-filter, sum-map}
use Rattle.std.proofs.lemmas.Simd.{map-map}
use Rattle.network.specs.declared.entries.Entry.{Entry}
use Rattle.elimination.specs.Fill.{Places}
use Rattle.elimination.specs.Plans.{in_column, rows_of}
use Rattle.elimination.proofs.Storing.{kept_below}

pub length_filter_map : {X Y : Type 0} (p : Y → Bool) (g : X → Y) (xs : List X) → length (filter p (map g xs)) ≡ length (filter (λ x. p (g x)) xs)
length_filter_map p g xs =
    length-filter p (map g xs) ∙ sym (sum-map (λ y. cond (p y) 1 0) (map g xs)) ∙ ap sum (map-map (λ y. cond (p y) 1 0) g xs)
    ∙ sum-map (λ x. cond (p (g x)) 1 0) xs ∙ sym (length-filter (λ x. p (g x)) xs)

-- as many pass as there are places at which one stands that passes
pub length_filter_places : {X : Type 0} (p : X → Bool) (xs : List X) (d : X) → length (filter p xs) ≡ length (filter (λ k. p (get_or xs k d)) (range_with_len 0 (length xs)))
length_filter_places p xs d =
    ap (λ ys. length (filter p ys)) (fill_by_all (λ k. get_or xs k d) xs (length xs) d refl (λ k h. refl))
    ∙ length_filter_map p (λ k. get_or xs k d) (range_with_len 0 (length xs))

-- as many entries of column k stand above row i as filled rows
pub above_are : (f : Places) (n i k : ℕ) (xs : List Entry) → i ≤ n → xs ≡ map (in_column k) (rows_of f n k) → length (filter (λ entry. ltb entry.row i) xs) ≡ length (filter (λ r. f r k) (range_with_len 0 i))
above_are f n i k xs inside is =
    ap (λ (ys : List Entry). length (filter (λ entry. ltb entry.row i) ys)) is ∙ length_filter_map (λ entry. ltb entry.row i) (in_column k) (rows_of f n k)
    ∙ ap length (kept_below (λ r. f r k) n i inside)
