-- The entries of a network and the order in which they stand. Assumes nothing.
use Rattle.std.specs.Prelude.{ℕ, ◌+◌, ◌*◌, Bool, ◌&&◌, ◌||◌, List, map, ◌==◌, nat_lt}
use Rattle.std.specs.List.{range_with_len}
use Rattle.network.specs.declared.entries.Entry.{Entry}
use Rattle.network.specs.Words.{word}

-- by column, then by row
abbrev pub after : Entry → Entry → Bool
after x y = nat_lt y.column x.column || (y.column == x.column && nat_lt y.row x.row)

-- entry t of a network sheet with e entries: the rows start at byte 4, the columns after them
abbrev pub entry_at : List ℕ → ℕ → ℕ → Entry
entry_at bytes e t = record { row = word bytes (4 + 2 * t); column = word bytes (4 + 2 * e + 2 * t) }

-- all of them
abbrev pub entries_of : List ℕ → ℕ → List Entry
entries_of bytes e = map (entry_at bytes e) (range_with_len 0 e)

-- what a look past the last entry gives
abbrev pub origin : Entry
origin = record { row = 0; column = 0 }
