-- The checks name the first thing that is wrong, and the entries correspond.
use Rattle.std.proofs.Common.{◌≡◌, ℕ, ◌^◌, List, IfOk, Ok, Err, Result, ap, ◌∙◌, rules}
use Rattle.network.specs.declared.matrices.Permuted.{Permuted}
use Rattle.refusals.specs.declared.Refusal.{Refusal}
use Rattle.network.specs.BothSheets.{sheets_checked, SheetsWrong, Told}
use Rattle.refusals.specs.Checks.{Answers}
use Rattle.network.specs.NetworkSheet.{network_checked, pattern}
use Rattle.network.specs.OrderReading.{listed}
use Rattle.network.specs.OrderSheet.{order_checked, order_of, orders}
use Rattle.network.specs.Permuted.{OneToOne}
use Rattle.network.specs.Words.{word}
use Rattle.refusals.specs.Judging.{Judges}
use Rattle.network.specs.Wrong.{NetworkWrong, OrderWrong}
use Rattle.std.proofs.lemmas.Result.{err_from_is_err_and}
use Rattle.refusals.proofs.Checking.{passes_held, passes_told, answers_ok, answers_err, answers_wanting}
use Rattle.network.proofs.BothChecked.{order_says, told, same_size}
use Rattle.refusals.proofs.FirstWrong.{judges, told_then}
use Rattle.network.proofs.NetworkLaw.{network_law, early}
use Rattle.network.proofs.OrderLaw.{order_law, late}
use Rattle.network.proofs.Placing.{one_to_one}
use Rattle.network.proofs.matrices.Permuted.read.Goals as goal

abbrev Reads : List ℕ → List ℕ → Result Permuted Refusal → Type 0
Reads network order r = Answers (sheets_checked network order) (Told network order) r

judged : (network order : List ℕ) (r : Result Permuted Refusal) → Reads network order r → Judges (SheetsWrong network order) r
judged network order r a =
    judges (SheetsWrong network order) (sheets_checked network order) (Told network order) r
    (told_then (NetworkWrong network) (OrderWrong (word network 0) order) (2 ^ 20) (early network) (late (word network 0) order)
    (network_checked network) (order_checked (word network 0) order) (network_law network) (order_law (word network 0) order))
    a

correspond : (r : Result Permuted Refusal) → IfOk r (λ m. OneToOne (pattern m.network) (orders m.order))
correspond (Ok m) = one_to_one m
correspond (Err refusal) = tt

-- what the three clauses say, from the first of them
clauses : (network order : List ℕ) (r : Result Permuted Refusal) → Reads network order r → record { answers : Reads network order r; judges : Judges (SheetsWrong network order) r; one_to_one : IfOk r (λ m. OneToOne (pattern m.network) (orders m.order)) }
clauses network order r a = record { answers = a; judges = judged network order r a; one_to_one = correspond r }

pub returns-in_err-network_sheet : goal.returns-in_err-network_sheet
returns-in_err-network_sheet c =
    let a : Reads c.args.network.now c.args.order.now c.from_residual.result = search rules in
    clauses _ _ _ a

pub returns-in_err-order_sheet : goal.returns-in_err-order_sheet
returns-in_err-order_sheet c =
    let fails = order_says c.args.network.now c.args.order.now _ _ c.in_ok-network_sheet.ensures c.size.ensures _ (passes_told _ _ _ c.in_err-order_sheet.ensures) in
    let p = err_from_is_err_and c.from_residual-in_err-order_sheet.result c.from_residual-in_err-order_sheet.ensures.1 in
    clauses _ _ _ (answers_err _ _ _ _ fails (p.1 ∙ ap Err p.2))

pub returns-in_err-network : goal.returns-in_err-network
returns-in_err-network c =
    let ok = order_says c.args.network.now c.args.order.now _ _ c.in_ok-network_sheet.ensures c.size.ensures _ (passes_held _ _ _ c.in_ok-order_sheet.ensures).0 in
    let p = err_from_is_err_and c.from_residual-in_err-network.result c.from_residual-in_err-network.ensures.1 in
    clauses _ _ _ (answers_wanting _ _ _ ok (p.1 ∙ ap Err p.2))

pub returns-in_err-order : goal.returns-in_err-order
returns-in_err-order c =
    let ok = order_says c.args.network.now c.args.order.now _ _ c.in_ok-network_sheet.ensures c.size.ensures _ (passes_held _ _ _ c.in_ok-order_sheet.ensures).0 in
    let p = err_from_is_err_and c.from_residual-in_err-order.result c.from_residual-in_err-order.ensures.1 in
    clauses _ _ _ (answers_wanting _ _ _ ok (p.1 ∙ ap Err p.2))

pub invariant_of-result : goal.invariant_of-result
invariant_of-result c =
    let n = c.size.result in
    let held = passes_held (order_checked n c.args.order.now) (λ x. listed x ≡ order_of n c.args.order.now) _ c.in_ok-order_sheet.ensures in
    let same = same_size c.args.network.now c.args.order.now _ n c.in_ok-network_sheet.ensures c.size.ensures c.in_ok-network.network c.in_ok-order.order c.in_ok-network.ensures (c.in_ok-order.ensures ∙ held.1) in
    record { same_size = c.in_ok-order.order.rows.numbers.ok.0 ∙ same }

pub returns : goal.returns
returns c =
    let n = c.size.result in
    let held = passes_held (order_checked n c.args.order.now) (λ x. listed x ≡ order_of n c.args.order.now) _ c.in_ok-order_sheet.ensures in
    let ok = order_says c.args.network.now c.args.order.now _ n c.in_ok-network_sheet.ensures c.size.ensures _ held.0 in
    clauses _ _ (Ok _) (answers_ok _ (Told c.args.network.now c.args.order.now) _ ok (told c.args.network.now c.args.order.now _ n c.in_ok-network_sheet.ensures c.size.ensures _ c.in_ok-network.ensures (c.in_ok-order.ensures ∙ held.1)))
