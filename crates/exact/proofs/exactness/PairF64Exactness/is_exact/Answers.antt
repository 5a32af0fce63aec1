use Rattle.exact.proofs.Rounded.{real_pairs_not_exact}
use Rattle.exact.proofs.exactness.PairF64Exactness.is_exact.Goals as goal

pub returns : goal.returns
returns c = real_pairs_not_exact
