use Rattle.std.proofs.Common.{◌/◌, length}
use Rattle.network.specs.Reading.{numbers_left}
use Rattle.network.proofs.OrderSteps.{Passed}
use Rattle.network.proofs.permutations.reading.NumberList.check.Given as goal

abbrev pub invariant-loop-i : goal.invariant-loop-i
invariant-loop-i l =
    record {
      may : (goal.iterator-loop-i).can_next l.i-iterator;
      ends : (goal.iterator-loop-i).is_finite l.i-iterator;
      so_far : Passed l.bytes (length l.bytes / 2) l.base l.i-iterator.count l.seen (numbers_left l.i-iterator.iter);
    }
