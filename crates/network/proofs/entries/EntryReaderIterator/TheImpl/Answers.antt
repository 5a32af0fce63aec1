use Rattle.network.specs.EntryReading.{entries_left}
use Rattle.network.proofs.Reading.{progress}
use Rattle.network.proofs.entries.EntryReaderIterator.TheImpl.Goals as goal

pub next-tells : goal.next-tells
next-tells g x c = record { steps = c.ensures.steps; goes = progress _ entries_left c.args.self.now c.new.self.now c.result tt c.ensures.steps }
