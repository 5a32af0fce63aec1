use Rattle.std.proofs.Common.{length, sym, ap, ◌∙◌, subst, arith}
use Rattle.std.proofs.lemmas.List.{length-set}
use Rattle.network.specs.Permutations.{Distinct}
use Rattle.network.proofs.OrderSteps.{length_from}
use Rattle.network.proofs.Permuting.{inverts_more}
use Rattle.network.proofs.permutations.reading.NumberList.positions.Goals as goal

pub overflow_cast-i : goal.overflow_cast-i
overflow_cast-i c = omega (arith, ap length c.requires, length_from c.args.self.now.bytes.now, c.args.self.now.few)

pub loop-i-preserved : goal.loop-i-preserved
loop-i-preserved c = (
  length-set _ _ _ ∙ c.loop-i.invariant.0,
  inverts_more _ c.args.numbers.now c.loop-i.i _ (subst Distinct (sym c.requires) c.args.self.now.distinct) (omega arith) c.from.ensures c.loop-i.invariant.0 c.loop-i.invariant.1,
)
