use Rattle.exact.proofs.CheckLaws.{minus_one_no_square}
use Rattle.exact.proofs.theorems.minus_one_is_no_square.Goals as goal

pub returns : goal.returns
returns c = minus_one_no_square
