-- What a reader has left to read. Assumes nothing.
use Rattle.std.specs.Prelude.{ℕ, List}
use Rattle.network.specs.declared.numbers.Reader.{Reader}
use Rattle.network.specs.Words.{words_from}

abbrev pub numbers_left : Reader → List ℕ
numbers_left x = words_from x.bytes.now x.at
