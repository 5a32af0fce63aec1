use Rattle.network.specs.Reading.{numbers_left}
use Rattle.network.proofs.Reading.{reads_first, progress}
use Rattle.network.proofs.numbers.ReaderIterator.TheImpl.Goals as goal

pub next-tells : goal.next-tells
next-tells g x c =
    let steps = reads_first c.args.self.now c.new.self.now c.result c.ensures.value c.ensures.position c.ensures.same in
    record { steps = steps; goes = progress _ numbers_left c.args.self.now c.new.self.now c.result tt steps }
