use Rattle.std.proofs.Common.{ℕ, eqb, List, length, filter, ap, ◌∙◌}
use Rattle.std.proofs.lemmas.List.{take_all}
use Rattle.symbolic.proofs.Counting.{length_filter_places}
use Rattle.symbolic.proofs.levels.width.Goals as goal

pub returns : goal.returns
returns c =
    c.loop-other.invariant.0 ∙ ap (λ (xs : List ℕ). length (filter (λ other. eqb other c.args.level) xs)) (take_all _ _ c.loop-other-test.false)
    ∙ length_filter_places (λ other. eqb other c.args.level) c.args.levels.now 0
