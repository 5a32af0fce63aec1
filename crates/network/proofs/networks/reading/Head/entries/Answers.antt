use Rattle.std.proofs.Common.{ℕ, ◌+◌, ◌*◌, ap, ◌∙◌}
use Rattle.network.proofs.EntryPairs.{all_entries}
use Rattle.network.proofs.NetworkFacts.{head_passed}
use Rattle.network.proofs.networks.reading.Head.entries.Goals as goal

pub returns : goal.returns
returns c =
    let self = c.args.self.now in
    let start = c.new.ensures.columns.1 ∙ ap (λ (e : ℕ). 4 + 2 * e) c.from.ensures in
    all_entries self.sheet.now self.e c.new.result (head_passed self.sheet.now self.n self.e self.checked).long c.new.ensures.rows.0 c.new.ensures.rows.1 c.new.ensures.columns.0 start
