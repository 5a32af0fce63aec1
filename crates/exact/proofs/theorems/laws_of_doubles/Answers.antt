use Rattle.exact.proofs.FitLaw.{fit_doubles}
use Rattle.exact.proofs.Rounded.{rounds}
use Rattle.exact.proofs.theorems.laws_of_doubles.Goals as goal

pub returns : goal.returns
returns c = record { fit = fit_doubles; rounding = rounds }
