use Rattle.exact.proofs.Algebra.{field}
use Rattle.exact.proofs.PairLaws.{pairs_exact}
use Rattle.exact.proofs.theorems.exact_is_field.Goals as goal

pub returns : goal.returns
returns g c = record { field = field; of_pairs = pairs_exact }
