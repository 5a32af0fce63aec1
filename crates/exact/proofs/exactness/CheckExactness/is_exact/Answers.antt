use Rattle.exact.proofs.CheckLaws.{check_exact}
use Rattle.exact.proofs.exactness.CheckExactness.is_exact.Goals as goal

pub returns : goal.returns
returns c = check_exact
