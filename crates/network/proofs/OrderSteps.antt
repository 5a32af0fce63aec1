-- One turn of the loop over an order's numbers. Assumes nothing.
use Rattle.std.proofs.Common.{◌≡◌, ℕ, ◌+◌, ◌-◌, ◌*◌, ◌/◌, ◌<◌, ◌≤◌, Bool, true, false, List, [], ◌∷◌, length, get_or, take, set, replicate, Err, sym, refl, ap, ◌∙◌, subst, arith}
use Rattle.std.proofs.lemmas.List.FromFn.{fill_by_all, get_or-map-range_with_len, length-map-range_with_len}
use Rattle.refusals.specs.declared.Refusal.TheVariants.{OrderNumber}
use Rattle.refusals.specs.Checks.{passed, unless, each_from}
use Rattle.network.specs.OrderSheet.{number_verdict, numbers_checked}
use Rattle.network.specs.Words.{word, words, words_from}
use Rattle.refusals.proofs.Checking.{each_from_goes, each_from_stops}
use Rattle.network.proofs.Permuting.{Marks, marks_none, marks_more, unmarked, new_is}
use Rattle.network.proofs.Remaining.{Turned, none_turned, turned_all, turn_more, turn_is, turned_more}

pub length_words : (bytes : List ℕ) (p n : ℕ) → length (words bytes p n) ≡ n
length_words bytes p n = length-map-range_with_len (λ t. word bytes (p + 2 * t)) 0 n

-- the numbers of a list, two bytes each
pub from_start : (bytes : List ℕ) → words_from bytes 0 ≡ words bytes 0 (length bytes / 2)
from_start bytes = let e : (length bytes - 0) / 2 ≡ length bytes / 2 = omega arith in ap (words bytes 0) e

pub length_from : (bytes : List ℕ) → length (words_from bytes 0) ≡ length bytes / 2
length_from bytes = ap length (from_start bytes) ∙ length_words bytes 0 (length bytes / 2)

abbrev pub number_at : List ℕ → ℕ → ℕ
number_at bytes t = word bytes (0 + 2 * t)

-- ---- a loop that has taken i of a list's numbers and has these left
abbrev pub TurnedNumbers : List ℕ → ℕ → List ℕ → Type 0
TurnedNumbers bytes i left = Turned (number_at bytes) (length bytes / 2) i left

pub number_is : (bytes : List ℕ) (i x : ℕ) → i < length bytes / 2 → x ≡ number_at bytes i → x ≡ get_or (words_from bytes 0) i 0
number_is bytes i x inside is =
    is ∙ sym (ap (λ (xs : List ℕ). get_or xs i 0) (from_start bytes) ∙ get_or-map-range_with_len (number_at bytes) 0 (length bytes / 2) i i 0 inside (omega arith))

-- the first i numbers passed and are marked
pub record Passed (bytes : List ℕ) (n base i : ℕ) (seen : List Bool) (left : List ℕ) : Type 0 where
  pub turned : TurnedNumbers bytes i left
  pub marks : Marks n seen (words_from bytes 0) i
  pub checks : each_from (number_verdict n (words_from bytes 0) base) i (n - i) ≡ numbers_checked n (words_from bytes 0) base

pub none_passed : (bytes : List ℕ) (n base i : ℕ) (left : List ℕ) → n ≤ 512 → i ≡ 0 → left ≡ words_from bytes 0 → Passed bytes n base i (take n (replicate 512 false)) left
none_passed bytes n base i left small start all =
    let whole : n - 0 ≡ n = omega arith in
    subst (λ (k : ℕ). Passed bytes n base k (take n (replicate 512 false)) left) (sym start)
    record {
      turned = subst (λ (k : ℕ). TurnedNumbers bytes k left) start (none_turned (number_at bytes) (length bytes / 2) i left start (all ∙ from_start bytes));
      marks = marks_none n (words_from bytes 0) small;
      checks = ap (each_from (number_verdict n (words_from bytes 0) base) 0) whole;
    }

module _ (bytes : List ℕ) (n base i : ℕ) (seen : List Bool) (left : List ℕ) (size : n ≡ length bytes / 2) (so_far : Passed bytes n base i seen left) where
  pub all_passed : left ≡ [] → passed ≡ numbers_checked n (words_from bytes 0) base
  all_passed none =
      let over : n - i ≡ 0 = omega (arith, size, turned_all (number_at bytes) (length bytes / 2) i left so_far.turned none) in
      ap (each_from (number_verdict n (words_from bytes 0) base) i) (sym over) ∙ so_far.checks

  -- the next number
  module _ (x : ℕ) (rest : List ℕ) (some : left ≡ x ∷ rest) where
    next : i < n
    next = omega (arith, size, turn_more (number_at bytes) (length bytes / 2) i left so_far.turned x rest some)

    is : x ≡ get_or (words_from bytes 0) i 0
    is = number_is bytes i x (omega (arith, next, size)) (turn_is (number_at bytes) (length bytes / 2) i left so_far.turned x rest some)

    verdict_is : (new : Bool) → new ≡ unmarked seen x → number_verdict n (words_from bytes 0) base i ≡ unless new (OrderNumber (base + i)) passed
    verdict_is new e = ap (λ (b : Bool). unless b (OrderNumber (base + i)) passed) (sym (e ∙ new_is n seen (words_from bytes 0) i x is so_far.marks))

    pub one_more : true ≡ unmarked seen x → (j : ℕ) → j ≡ i + 1 → Passed bytes n base j (set seen x true) rest
    one_more new j after =
        subst (λ (k : ℕ). Passed bytes n base k (set seen x true) rest) (sym after)
        record {
          turned = turned_more (number_at bytes) (length bytes / 2) i left so_far.turned x rest some (i + 1) refl;
          marks = marks_more n seen (words_from bytes 0) i x (omega (arith, next, size, length_from bytes)) is so_far.marks;
          checks = sym (each_from_goes (number_verdict n (words_from bytes 0) base) i n next (verdict_is true new)) ∙ so_far.checks;
        }

    pub stops : false ≡ unmarked seen x → Err (OrderNumber (base + i)) ≡ numbers_checked n (words_from bytes 0) base
    stops new = sym (each_from_stops (number_verdict n (words_from bytes 0) base) i n (OrderNumber (base + i)) next (verdict_is false new)) ∙ so_far.checks

-- ---- a list that stands in a sheet
pub in_sheet : (xs bytes : List ℕ) (p n : ℕ) → length xs ≡ 2 * n → ((j : ℕ) → j < 2 * n → get_or xs j 0 ≡ get_or bytes (p + j) 0) → words_from xs 0 ≡ words bytes p n
in_sheet xs bytes p n long same =
    fill_by_all (λ t. word bytes (p + 2 * t)) (words_from xs 0) n 0 (omega (arith, length_from xs))
    (λ k h.
    let low = same (2 * k) (omega arith) in
    let high : get_or xs (2 * k + 1) 0 ≡ get_or bytes (p + 2 * k + 1) 0 = same (2 * k + 1) (omega arith) ∙ ap (λ (q : ℕ). get_or bytes q 0) (omega arith) in
    let there : word xs (0 + 2 * k) ≡ word xs (2 * k) = ap (word xs) (omega arith) in
    ap (λ (ys : List ℕ). get_or ys k 0) (from_start xs) ∙ get_or-map-range_with_len (number_at xs) 0 (length xs / 2) k k 0 (omega arith) (omega arith)
    ∙ there ∙ (λ d. low d + 256 * high d))
