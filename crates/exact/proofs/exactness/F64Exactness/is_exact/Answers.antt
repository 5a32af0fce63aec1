use Rattle.exact.proofs.Rounded.{real_not_exact}
use Rattle.exact.proofs.exactness.F64Exactness.is_exact.Goals as goal

pub returns : goal.returns
returns c = real_not_exact
