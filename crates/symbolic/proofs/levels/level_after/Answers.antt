use Rattle.std.proofs.Common.{ℕ, ◌+◌, max, Option, get_or, sym, ap, ◌∙◌, rules}
use Rattle.std.specs.Option.{unwrap_or}
use Rattle.std.specs.Ordering.{max_by_ordering, nat_cmp}
use Rattle.std.proofs.lemmas.Iterator.{YieldsList-from_slice, YieldsList-from_map}
use Rattle.std.proofs.lemmas.Iterator.Consumers.{reduce_from_yields_List}
use Rattle.std.proofs.lemmas.List.Folds.{max_of_map, fold-map}
use Rattle.network.specs.declared.entries.Entry.{Entry}
use Rattle.elimination.specs.Storage.{row_of}
use Rattle.symbolic.proofs.levels.level_after.Goals as goal

pub returns : goal.returns
returns c =
    let levels = c.args.levels.now in
    let above : Entry → ℕ = λ entry. get_or levels entry.row 0 + 1 in
    let highest = reduce_from_yields_List (λ p z. max_by_ordering (nat_cmp p z) p z) c.map.result c.max.result c.max.ensures.ran (YieldsList-from_map _ above (YieldsList-from_slice c.args.awaited.now cc) c.map.ensures.closure (λ x r q k. search rules)) in
    c.unwrap_or.ensures ∙ ap (λ (o : Option ℕ). unwrap_or o 0) highest
    ∙ max_of_map above c.args.awaited.now ∙ sym (fold-map (λ a j. max a (get_or levels j 0 + 1)) row_of 0 c.args.awaited.now)
