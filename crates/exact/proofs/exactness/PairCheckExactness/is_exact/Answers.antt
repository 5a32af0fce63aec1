use Rattle.exact.proofs.CheckLaws.{check_pairs_exact}
use Rattle.exact.proofs.exactness.PairCheckExactness.is_exact.Goals as goal

pub returns : goal.returns
returns c = check_pairs_exact
