use Rattle.network.specs.EntryReading.{entries_left}
use Rattle.network.proofs.EntrySteps.{Passed}
use Rattle.network.proofs.networks.reading.Head.check_entries.Given as goal

abbrev pub invariant-loop-t : goal.invariant-loop-t
invariant-loop-t l =
    record {
      may : (goal.iterator-loop-t).can_next l.t-iterator;
      ends : (goal.iterator-loop-t).is_finite l.t-iterator;
      so_far : Passed l.self.sheet.now l.self.n l.self.e l.t-iterator.count l.before (entries_left l.t-iterator.iter);
    }
