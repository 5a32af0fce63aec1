use Rattle.std.proofs.Common.{arith}
use Rattle.scalar.proofs.Inverting.{inverts}
use Rattle.scalar.proofs.residues.Check.inverse.Goals as goal

pub returns-clause-inverts : goal.returns-clause-inverts
returns-clause-inverts c = grind (arith, inverts c.args.self)
