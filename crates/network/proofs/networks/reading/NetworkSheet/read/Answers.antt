-- The entries that were read are those that passed the checks.
use Rattle.std.proofs.Common.{Ok}
use Rattle.std.specs.declared.alloc.AllocError.{AllocError}
use Rattle.std.proofs.lemmas.Iterator.{items_from_collect}
use Rattle.std.proofs.lemmas.Iterator.Consumers.{YieldsList-from_first}
use Rattle.network.specs.EntryReading.{entries_left}
use Rattle.network.proofs.NetworkFacts.{kept}
use Rattle.network.proofs.networks.reading.NetworkSheet.read.Goals as goal

pub invariant_of-result : goal.invariant_of-result
invariant_of-result c =
    let head = c.args.self.now.head in
    let read = c.in_ok-entries.entries in
    let items = items_from_collect {E = AllocError} (Ok read) c.in_ok-entries.ensures.ran (YieldsList-from_first (λ x. x) entries_left _ c.entries.ensures) in
    let k = kept head.sheet.now head.n head.e head.checked c.args.self.now.checked _ read.items items read.ok.0 in
    record { columns_fit = k.columns_fit; entries_fit = k.entries_fit; inside = k.inside; rising = k.rising }
