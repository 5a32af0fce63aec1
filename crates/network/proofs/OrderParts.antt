-- The two lists of an order sheet whose length and n are right, and what their checks say of the sheet. Assumes nothing.
use Rattle.std.proofs.Common.{◌≡◌, ℕ, ◌+◌, ◌-◌, ◌*◌, ◌/◌, eqb, List, length, get_or, take, drop, sym, ap, ◌∙◌, arith}
use Rattle.std.proofs.lemmas.Bool.{eqb-true}
use Rattle.std.proofs.lemmas.List.{take_all, get_or-take, get_or-drop, length-take, length-drop}
use Rattle.refusals.specs.declared.Refusal.TheVariants.{OrderLength, OrderSize}
use Rattle.refusals.specs.Checks.{Verdict, passed, unless, bind}
use Rattle.network.specs.declared.orders.reading.OrderSheet.{OrderSheet}
use Rattle.network.specs.OrderReading.{lists_checked, listed}
use Rattle.network.specs.OrderSheet.{numbers_checked, size_checked, order_checked, order_of}
use Rattle.network.specs.Words.{word, words, words_from}
use Rattle.refusals.proofs.Checking.{unless_passed}
use Rattle.network.proofs.OrderSteps.{in_sheet}

-- m is n, as the code counts with it
module _ (n m : ℕ) (sheet rows columns : List ℕ) (sized : passed ≡ size_checked n sheet) (count : m ≡ n)
    (before : rows ≡ take (2 * m) (take (length sheet - 2) (drop 2 sheet))) (after : columns ≡ drop (2 * m) (take (length sheet - 2) (drop 2 sheet))) where
  tail : take (length sheet - 2) (drop 2 sheet) ≡ drop 2 sheet
  tail = take_all (length sheet - 2) (drop 2 sheet) (omega (arith, length-drop 2 sheet))

  front : rows ≡ take (2 * n) (drop 2 sheet)
  front = before ∙ (λ d. take (2 * count d) (tail d))

  back : columns ≡ drop (2 * n) (drop 2 sheet)
  back = after ∙ (λ d. drop (2 * count d) (tail d))

  whole : length sheet ≡ 2 + 4 * n
  whole = eqb-true _ _ (unless_passed (eqb (length sheet) (2 + 4 * n)) (OrderLength (length sheet)) (unless (eqb (word sheet 0) n) (OrderSize (word sheet 0)) passed) tt (sym sized)).0

  rows_long : length rows ≡ 2 * n
  rows_long = ap length front ∙ omega (arith, whole, length-take (2 * n) (drop 2 sheet), length-drop 2 sheet)

  columns_long : length columns ≡ 2 * n
  columns_long = ap length back ∙ omega (arith, whole, length-drop (2 * n) (drop 2 sheet), length-drop 2 sheet)

  pub rows_are : words_from rows 0 ≡ words sheet 2 n
  rows_are =
      in_sheet rows sheet 2 n rows_long
      (λ j h. ap (λ (xs : List ℕ). get_or xs j 0) front ∙ get_or-take (2 * n) (drop 2 sheet) j 0 h ∙ get_or-drop 2 sheet j 0)

  pub columns_are : words_from columns 0 ≡ words sheet (2 + 2 * n) n
  columns_are =
      in_sheet columns sheet (2 + 2 * n) n columns_long
      (λ j h.
      let there : 2 + (2 * n + j) ≡ 2 + 2 * n + j = omega arith in
      ap (λ (xs : List ℕ). get_or xs j 0) back ∙ get_or-drop (2 * n) (drop 2 sheet) j 0 ∙ get_or-drop 2 sheet (2 * n + j) 0 ∙ ap (λ (q : ℕ). get_or sheet q 0) there)

  -- the checks of the lists are those of the sheet
  pub sheet_checked : lists_checked rows columns ≡ order_checked n sheet
  sheet_checked =
      let rows_half : length rows / 2 ≡ n = omega (arith, rows_long) in
      let columns_half : length columns / 2 ≡ n = omega (arith, columns_long) in
      (λ d. bind (numbers_checked (rows_half d) (rows_are d) 0) (λ _. numbers_checked (columns_half d) (columns_are d) (rows_half d)))
      ∙ ap (λ (v : Verdict). bind v (λ _. bind (numbers_checked n (words sheet 2 n) 0) (λ _. numbers_checked n (words sheet (2 + 2 * n) n) n))) sized

  pub sheet_told : (checked : OrderSheet) → (checked.rows.bytes.now ≡ rows) × (checked.columns.bytes.now ≡ columns) → listed checked ≡ order_of n sheet
  sheet_told checked same =
      (λ d. record { rows = words_from (same.0 d) 0; columns = words_from (same.1 d) 0 })
      ∙ (λ d. record { rows = rows_are d; columns = columns_are d })
