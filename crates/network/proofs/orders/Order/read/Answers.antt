-- The checks name the first thing that is wrong.
use Rattle.std.proofs.Common.{◌≡◌, ℕ, List, Ok, Result, ◌∙◌, subst, rules}
use Rattle.network.specs.declared.orders.Order.{Order}
use Rattle.refusals.specs.declared.Refusal.{Refusal}
use Rattle.refusals.specs.Checks.{Answers}
use Rattle.network.specs.OrderSheet.{order_checked, order_of, orders}
use Rattle.refusals.proofs.Checking.{passes_held, answers_ok}
use Rattle.refusals.proofs.FirstWrong.{judges_too}
use Rattle.network.proofs.OrderLaw.{order_law}
use Rattle.network.proofs.orders.Order.read.Goals as goal

abbrev Reads : ℕ → List ℕ → Result Order Refusal → Type 0
Reads n bytes r = Answers (order_checked n bytes) (λ o. orders o ≡ order_of n bytes) r

pub returns-in_err-check : goal.returns-in_err-check
returns-in_err-check c =
    let a : Reads c.args.network.now.n c.args.sheet.now c.from_residual.result = search rules in
    judges_too _ _ _ _ (order_law c.args.network.now.n c.args.sheet.now) a

pub returns-in_err-read : goal.returns-in_err-read
returns-in_err-read c =
    let a : Reads c.args.network.now.n c.args.sheet.now c.from_residual-in_err-read.result = search rules in
    judges_too _ _ _ _ (order_law c.args.network.now.n c.args.sheet.now) a

pub returns : goal.returns
returns c =
    let n = c.size.result in
    let held = passes_held _ _ _ c.in_ok-check.ensures in
    let told = answers_ok (order_checked n c.args.sheet.now) (λ o. orders o ≡ order_of n c.args.sheet.now) c.in_ok-read.field-0 held.0 (c.in_ok-read.ensures ∙ held.1) in
    let a = subst (λ (k : ℕ). Reads k c.args.sheet.now (Ok c.in_ok-read.field-0)) c.size.ensures told in
    judges_too _ _ _ _ (order_law c.args.network.now.n c.args.sheet.now) a
