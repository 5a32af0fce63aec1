-- Where a column stands among the filled entries, in the words of the definitions, which cannot name a type of code. Assumes nothing.
use Rattle.elimination.specs.Storage.{Bounds}
use Rattle.symbolic.specs.declared.patterns.Column.{Column}

abbrev pub bounds : Column → Bounds
bounds column = record { start = column.start; diagonal = column.diagonal; end = column.end }
