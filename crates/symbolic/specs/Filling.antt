-- A filled pattern that holds the columns below k. Assumes nothing.
use Rattle.std.specs.Prelude.{ℕ, map, vec_items}
use Rattle.elimination.specs.Fill.{Places}
use Rattle.elimination.specs.Plans.{filling}
use Rattle.elimination.specs.Storage.{Stored}
use Rattle.network.specs.NetworkSheet.{pattern}
use Rattle.network.specs.OrderSheet.{orders}
use Rattle.network.specs.declared.matrices.Permuted.{Permuted}
use Rattle.symbolic.specs.Columns.{bounds}
use Rattle.symbolic.specs.declared.patterns.Filled.{Filled}

abbrev pub Holds : Places → ℕ → ℕ → Filled → Type 0
Holds f n k x = Stored f n k (vec_items x.entries) (map bounds (vec_items x.columns))

-- the filled places of a permuted matrix
abbrev pub filled_of : Permuted → Places
filled_of m = filling (pattern m.network) (orders m.order)

-- all columns of a permuted matrix
abbrev pub HoldsAll : Permuted → Filled → Type 0
HoldsAll m x = Holds (filled_of m) m.network.n m.network.n x
