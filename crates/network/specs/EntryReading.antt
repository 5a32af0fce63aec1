-- What a reader of entries has left to read. Assumes nothing.
use Rattle.std.specs.Prelude.{ℕ, List, [], ◌∷◌}
use Rattle.network.specs.declared.entries.Entry.{Entry}
use Rattle.network.specs.declared.entries.EntryReader.{EntryReader}
use Rattle.network.specs.Reading.{numbers_left}

-- the entries of these rows and columns, as far as there are both
abbrev pub paired : List ℕ → List ℕ → List Entry
paired [] columns = []
paired (r ∷ rows) [] = []
paired (r ∷ rows) (k ∷ columns) = record { column = k; row = r } ∷ paired rows columns

abbrev pub entries_left : EntryReader → List Entry
entries_left x = paired (numbers_left x.rows) (numbers_left x.columns)
