-- The two lists of an order sheet, each by the bytes of its numbers. Assumes nothing.
use Rattle.std.specs.Prelude.{ℕ, ◌/◌, List, length}
use Rattle.refusals.specs.Checks.{Verdict, bind}
use Rattle.network.specs.declared.orders.reading.OrderSheet.{OrderSheet}
use Rattle.network.specs.OrderSheet.{Orders, numbers_checked}
use Rattle.network.specs.Words.{words_from}

-- the checks of the rows and then of the columns, which are counted on from them
abbrev pub lists_checked : List ℕ → List ℕ → Verdict
lists_checked rows columns =
    bind (numbers_checked (length rows / 2) (words_from rows 0) 0)
    (λ _. numbers_checked (length columns / 2) (words_from columns 0) (length rows / 2))

-- what an order sheet tells that was checked
abbrev pub listed : OrderSheet → Orders
listed x = record { rows = words_from x.rows.bytes.now 0; columns = words_from x.columns.bytes.now 0 }
