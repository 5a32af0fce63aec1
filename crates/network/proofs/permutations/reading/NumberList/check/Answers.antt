use Rattle.std.proofs.Common.{ℕ, ◌+◌, ◌/◌, true, Err, length, set, ap, ◌∙◌, refl, sym, subst, inl, arith}
use Rattle.refusals.specs.declared.Refusal.TheVariants.{OrderNumber}
use Rattle.refusals.proofs.Checking.{passes_ok, passes_err}
use Rattle.network.specs.Reading.{numbers_left}
use Rattle.network.specs.Words.{words_from}
use Rattle.network.proofs.OrderLaw.{numbers_passed}
use Rattle.network.proofs.OrderSteps.{Passed, none_passed, all_passed, one_more, stops, length_from}
use Rattle.network.proofs.Remaining.{turns_fit}
use Rattle.network.proofs.permutations.reading.NumberList.check.Goals as goal

pub loop-i-init : goal.loop-i-init
loop-i-init c =
    let start = c.enumerate-i-items.ensures in
    let same = c.into_iter-i-iterator.ensures.into_iter_gives in
    let left = ap (λ s. numbers_left s.iter) same ∙ ap numbers_left start.source ∙ (λ d. words_from (c.new.ensures.bytes d) (c.new.ensures.at d)) in
    let so_far = none_passed c.args.bytes.now (length c.args.bytes.now / 2) c.args.base _ _ (omega arith) (ap (λ s. s.count) same ∙ start.count) left in
    record { may = (tt, tt, inl (turns_fit _ _ _ _ so_far.turned (omega arith))); ends = tt; so_far = so_far }

pub loop-i-preserved : goal.loop-i-preserved
loop-i-preserved c =
    let turn = c.in-Some.ensures.steps in
    let marked = one_more _ _ _ _ _ _ refl c.loop-i.invariant.so_far c.in-Some.number _ turn.0 c.if-not-is_new.ensures _ turn.2 in
    let so_far = subst (λ (x : ℕ). Passed c.args.bytes.now (length c.args.bytes.now / 2) c.args.base c.next.new.self.count (set c.loop-i.seen x true) (numbers_left c.next.new.self.iter)) (sym c.from.ensures) marked in
    record { may = (tt, tt, inl (turns_fit _ _ _ _ so_far.turned (omega arith))); ends = tt; so_far = so_far }

pub returns-then-not-is_new : goal.returns-then-not-is_new
returns-then-not-is_new c =
    let turn = c.in-Some.ensures.steps in
    passes_err _ _ _ _ (sym (ap (λ (i : ℕ). Err (OrderNumber (c.args.base + i))) turn.1 ∙ stops _ _ _ _ _ _ refl c.loop-i.invariant.so_far c.in-Some.number _ turn.0 c.if-not-is_new.ensures)) refl

pub invariant_of-result : goal.invariant_of-result
invariant_of-result c =
    let passed = all_passed _ _ _ _ _ _ refl c.loop-i.invariant.so_far c.in-None.ensures.steps.0.0 in
    record { few = c.requires.0; distinct = numbers_passed (length c.args.bytes.now / 2) c.args.base (words_from c.args.bytes.now 0) (length_from c.args.bytes.now) (sym passed) }

pub returns : goal.returns
returns c = passes_ok _ _ _ _ (sym (all_passed _ _ _ _ _ _ refl c.loop-i.invariant.so_far c.in-None.ensures.steps.0.0)) refl
