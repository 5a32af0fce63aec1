-- What the fill works on: a table of B's entries. Assumes nothing.
use Rattle.std.specs.Prelude.{◌+◌, ◌*◌, false, ◌&&◌, nat_lt, slice_index_or}
use Rattle.elimination.specs.Fill.{Places, filled}
use Rattle.symbolic.specs.declared.tables.Table.{Table}

-- the places that are marked in a table of n by n, row by row
abbrev pub tabled : Table → Places
tabled table i k = (nat_lt i table.n && nat_lt k table.n) && slice_index_or table.marks.now (i * table.n + k) false

-- what the entries in the table come to when every column was eliminated
abbrev pub filled_from : Table → Places
filled_from table = filled (tabled table) table.n
