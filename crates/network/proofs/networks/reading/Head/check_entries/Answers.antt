use Rattle.std.proofs.Common.{Err, ap, ◌∙◌, inl}
use Rattle.std.proofs.lemmas.Result.{err_from_is_err_and}
use Rattle.network.specs.EntryReading.{entries_left}
use Rattle.network.proofs.EntrySteps.{none_passed, all_passed, one_more, stops}
use Rattle.network.proofs.NetworkFacts.{head_passed}
use Rattle.network.proofs.Remaining.{turns_fit}
use Rattle.network.proofs.networks.reading.Head.check_entries.Goals as goal

pub loop-t-init : goal.loop-t-init
loop-t-init c =
    let self = c.args.self.now in
    let limit = (head_passed self.sheet.now self.n self.e self.checked).e_fits.1 in
    let start = c.enumerate-t-items.ensures in
    let same = c.into_iter-t-iterator.ensures.into_iter_gives in
    let left = ap (λ s. entries_left s.iter) same ∙ ap entries_left start.source ∙ c.entries.ensures in
    let so_far = none_passed _ self.n _ _ _ (ap (λ s. s.count) same ∙ start.count) left in
    record { may = (tt, tt, inl (turns_fit _ _ _ _ so_far.turned limit)); ends = tt; so_far = so_far }

pub loop-t-preserved : goal.loop-t-preserved
loop-t-preserved c =
    let self = c.args.self.now in
    let limit = (head_passed self.sheet.now self.n self.e self.checked).e_fits.1 in
    let turn = c.in-Some.ensures.steps in
    let so_far = one_more _ _ _ _ _ _ c.loop-t.invariant.so_far c.in-Some.t c.in-Some.entry _ turn.0 turn.1 c.in_ok-check_entry.ensures _ turn.2 in
    record { may = (tt, tt, inl (turns_fit _ _ _ _ so_far.turned limit)); ends = tt; so_far = so_far }

pub returns : goal.returns
returns c = all_passed _ _ _ _ _ _ c.loop-t.invariant.so_far c.in-None.ensures.steps.0.0

pub returns-in_err-check_entry : goal.returns-in_err-check_entry
returns-in_err-check_entry c =
    let turn = c.in-Some.ensures.steps in
    let p = err_from_is_err_and c.from_residual.result c.from_residual.ensures.1 in
    p.1 ∙ ap Err p.2 ∙ stops _ _ _ _ _ _ c.loop-t.invariant.so_far c.in-Some.t c.in-Some.entry _ turn.0 turn.1 _ c.in_err-check_entry.ensures
