use Rattle.refusals.proofs.Checking.{passes_as}
use Rattle.network.proofs.OrderParts.{sheet_checked, sheet_told}
use Rattle.network.proofs.orders.reading.OrderSheet.check.Goals as goal

pub returns : goal.returns
returns c =
    let split = c.split_at.ensures in
    let checked = sheet_checked c.args.n c.from.result c.args.sheet.now _ _ c.in_ok-check_size.ensures c.from.ensures split.front split.back in
    let told = sheet_told c.args.n c.from.result c.args.sheet.now _ _ c.in_ok-check_size.ensures c.from.ensures split.front split.back in
    passes_as _ _ _ _ _ checked told c.check_lists.ensures
