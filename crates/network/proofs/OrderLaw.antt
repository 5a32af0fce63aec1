-- The checks of an order sheet: what it says that they passed, and that they name the first thing that is wrong. Assumes nothing.
use Rattle.std.proofs.Common.{◌≡◌, ℕ, zero, suc, ◌+◌, ◌*◌, ◌^◌, ◌<◌, ◌≤◌, true, false, not, eqb, ltb, List, length, get_or, take, sym, refl, ap, ◌∙◌, subst, inl, inr, ⊎_elim, zero-add, arith}
use Rattle.std.proofs.lemmas.Bool.{ltb-true, ltb-false, eqb-true, eqb-false, and_parts, and_cases, not-true, not-false, both_ways}
use Rattle.refusals.specs.declared.Refusal.{Refusal}
use Rattle.refusals.specs.declared.Refusal.TheVariants.{OrderLength, OrderSize, OrderNumber}
use Rattle.refusals.specs.Checks.{Verdict, passed, unless, bind, each_from}
use Rattle.network.specs.OrderSheet.{number_verdict, numbers_checked, order_checked}
use Rattle.network.specs.Permutations.{met, in_turn, Distinct}
use Rattle.network.specs.Words.{word, words}
use Rattle.refusals.specs.Judging.{turn}
use Rattle.network.specs.Wrong.{Misnumbered, OrderWrong}
use Rattle.network.specs.Wrong.OrderWrong.{long, size, row_number, column_number}
use Rattle.refusals.proofs.Checking.{unless_passed, each_from_passed}
use Rattle.refusals.proofs.FirstWrong.{From, from_unless, from_late, bind_unless, bind_last, Told, told_from}
use Rattle.network.proofs.OrderSteps.{length_words}
use Rattle.network.proofs.Permuting.{met_here, met_taken}

-- ---- all passed
pub numbers_passed : (n base : ℕ) (xs : List ℕ) → length xs ≡ n → numbers_checked n xs base ≡ passed → Distinct xs
numbers_passed n base xs many all i inside =
    let here = (unless_passed (in_turn n xs i) (OrderNumber (base + i)) passed tt (each_from_passed (number_verdict n xs base) 0 n all i (omega arith) (omega arith))).0 in
    subst (λ (m : ℕ). in_turn m xs i ≡ true) (sym many) here

-- ---- the test of a number and what is wrong with it
misnumbered : (n : ℕ) (xs : List ℕ) (i : ℕ) → in_turn n xs i ≡ false → Misnumbered n xs i
misnumbered n xs i fails =
    ⊎_elim
    (λ (large : ltb (get_or xs i 0) n ≡ false). inl (ltb-false _ _ large))
    (λ (twice : not (met (get_or xs i 0) (take i xs)) ≡ false). inr (met_taken xs i (get_or xs i 0) (not-false _ twice)))
    (and_cases (ltb (get_or xs i 0) n) (not (met (get_or xs i 0) (take i xs))) fails)

well_numbered : (n : ℕ) (xs : List ℕ) (i : ℕ) → i < length xs → in_turn n xs i ≡ true → Misnumbered n xs i → ⊥
well_numbered n xs i inside ok wrong =
    let two = and_parts (ltb (get_or xs i 0) n) (not (met (get_or xs i 0) (take i xs))) ok in
    ⊎_elim
    (λ (large : n ≤ get_or xs i 0). omega (arith, ltb-true _ _ two.0))
    (λ (twice : (j : ℕ) × (j < i) × (get_or xs j 0 ≡ get_or xs i 0)).
    both_ways _ (not-true _ two.1) (met_here xs i twice.0 (get_or xs i 0) twice.1 (omega (arith, twice.1)) twice.2))
    wrong

-- the numbers of a list, of which the first has the turn m, and then the rest
module _ (Wrong : Refusal → Type 0) (n base m : ℕ) (xs : List ℕ) (rest : Verdict)
    (turns : (i : ℕ) → turn (OrderNumber (base + i)) ≡ m + i)
    (bad : (i : ℕ) → i < n → in_turn n xs i ≡ false → Wrong (OrderNumber (base + i)))
    (good : (i : ℕ) → i < n → in_turn n xs i ≡ true → (other : Refusal) → Wrong other → turn other ≡ m + i → ⊥)
    (later : From Wrong (m + n) rest) where
  pub from_numbers : (count i : ℕ) → i + count ≡ n → From Wrong (m + i) (bind (each_from (number_verdict n xs base) i count) (λ _. rest))
  from_numbers zero i end = let e : m + n ≡ m + i = omega arith in subst (λ (k : ℕ). From Wrong k rest) e later
  from_numbers (suc count) i end =
      let tail : Verdict = each_from (number_verdict n xs base) (i + 1) count in
      let e : m + (i + 1) ≡ m + i + 1 = omega arith in
      let next : From Wrong (m + i + 1) (bind tail (λ _. rest)) = subst (λ (k : ℕ). From Wrong k (bind tail (λ _. rest))) e (from_numbers count (i + 1) (omega arith)) in
      let chain : bind (bind (number_verdict n xs base i) (λ _. tail)) (λ _. rest) ≡ unless (in_turn n xs i) (OrderNumber (base + i)) (bind tail (λ _. rest)) =
      ap (λ (v : Verdict). bind v (λ _. rest)) (bind_unless (in_turn n xs i) (OrderNumber (base + i)) passed (λ _. tail))
      ∙ bind_unless (in_turn n xs i) (OrderNumber (base + i)) tail (λ _. rest) in
      subst (From Wrong (m + i)) (sym chain)
      (from_unless Wrong (m + i) (in_turn n xs i) (OrderNumber (base + i)) (bind tail (λ _. rest)) (turns i) (bad i (omega arith)) (good i (omega arith)) next)

module _ (n : ℕ) (bytes : List ℕ) where
  abbrev rows : List ℕ
  rows = words bytes 2 n

  abbrev columns : List ℕ
  columns = words bytes (2 + 2 * n) n

  good_rows : (i : ℕ) → i < n → in_turn n rows i ≡ true → (g : Refusal) → OrderWrong n bytes g → turn g ≡ 2 ^ 20 + 2 + i → ⊥
  good_rows i inside ok g (long other) at = omega arith
  good_rows i inside ok g (size other) at = omega arith
  good_rows i inside ok g (row_number j h wrong) at =
      let same : j ≡ i = omega arith in
      well_numbered n rows i (omega (arith, length_words bytes 2 n)) ok (subst (Misnumbered n rows) same wrong)
  good_rows i inside ok g (column_number j h wrong) at = omega arith

  good_columns : (i : ℕ) → i < n → in_turn n columns i ≡ true → (g : Refusal) → OrderWrong n bytes g → turn g ≡ 2 ^ 20 + 2 + n + i → ⊥
  good_columns i inside ok g (long other) at = omega arith
  good_columns i inside ok g (size other) at = omega arith
  good_columns i inside ok g (row_number j h wrong) at = omega arith
  good_columns i inside ok g (column_number j h wrong) at =
      let same : j ≡ i = omega arith in
      well_numbered n columns i (omega (arith, length_words bytes (2 + 2 * n) n)) ok (subst (Misnumbered n columns) same wrong)

  past_last : (g : Refusal) → 2 ^ 20 + 2 + n + n ≤ turn g → OrderWrong n bytes g → ⊥
  past_last g late (long other) = omega arith
  past_last g late (size other) = omega arith
  past_last g late (row_number j h wrong) = omega arith
  past_last g late (column_number j h wrong) = omega arith

  not_long : eqb (length bytes) (2 + 4 * n) ≡ true → (g : Refusal) → OrderWrong n bytes g → turn g ≡ 2 ^ 20 → ⊥
  not_long ok g (long other) at = other (eqb-true _ _ ok)
  not_long ok g (size other) at = omega arith
  not_long ok g (row_number j h wrong) at = omega arith
  not_long ok g (column_number j h wrong) at = omega arith

  not_size : eqb (word bytes 0) n ≡ true → (g : Refusal) → OrderWrong n bytes g → turn g ≡ 2 ^ 20 + 1 → ⊥
  not_size ok g (long other) at = omega arith
  not_size ok g (size other) at = other (eqb-true _ _ ok)
  not_size ok g (row_number j h wrong) at = omega arith
  not_size ok g (column_number j h wrong) at = omega arith

  pub late : (g : Refusal) → OrderWrong n bytes g → 2 ^ 20 ≤ turn g
  late g (long other) = omega arith
  late g (size other) = omega arith
  late g (row_number j h wrong) = omega arith
  late g (column_number j h wrong) = omega arith

  from_columns : From (OrderWrong n bytes) (2 ^ 20 + 2 + n) (numbers_checked n columns n)
  from_columns =
      let m = 2 ^ 20 + 2 + n in
      let start : m + 0 ≡ m = omega arith in
      let all = from_numbers (OrderWrong n bytes) n n m columns passed (λ i. omega arith) (λ i inside fails. column_number i inside (misnumbered n columns i fails)) good_columns (λ g last wrong. past_last g last wrong) n 0 (omega arith) in
      subst (λ (k : ℕ). From (OrderWrong n bytes) k (numbers_checked n columns n)) start
      (subst (From (OrderWrong n bytes) (m + 0)) (bind_last (numbers_checked n columns n)) all)

  from_rows : From (OrderWrong n bytes) (2 ^ 20 + 2) (bind (numbers_checked n rows 0) (λ _. numbers_checked n columns n))
  from_rows =
      from_numbers (OrderWrong n bytes) n 0 (2 ^ 20 + 2) rows (numbers_checked n columns n) (λ i. omega arith)
      (λ i inside fails. subst (λ (k : ℕ). OrderWrong n bytes (OrderNumber k)) (sym (zero-add i)) (row_number i inside (misnumbered n rows i fails)))
      good_rows from_columns n 0 (omega arith)

  lists : Verdict
  lists = bind (numbers_checked n rows 0) (λ _. numbers_checked n columns n)

  chain : order_checked n bytes ≡ unless (eqb (length bytes) (2 + 4 * n)) (OrderLength (length bytes)) (unless (eqb (word bytes 0) n) (OrderSize (word bytes 0)) lists)
  unfolding lists
  chain = simp bind_unless

  pub order_law : Told (OrderWrong n bytes) (order_checked n bytes)
  unfolding lists
  order_law =
      told_from (OrderWrong n bytes) (order_checked n bytes) (from_late (OrderWrong n bytes) (2 ^ 20) (order_checked n bytes) late
      (subst (From (OrderWrong n bytes) (2 ^ 20)) (sym chain)
      (from_unless (OrderWrong n bytes) (2 ^ 20) (eqb (length bytes) (2 + 4 * n)) (OrderLength (length bytes)) _ refl (λ fails. long (eqb-false _ _ fails)) not_long
      (from_unless (OrderWrong n bytes) (2 ^ 20 + 1) (eqb (word bytes 0) n) (OrderSize (word bytes 0)) lists refl (λ fails. size (eqb-false _ _ fails)) not_size
      from_rows))))
