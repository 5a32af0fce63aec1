-- What is looked at in an order sheet, in this order, and what a sheet in order tells. Assumes nothing.
use Rattle.std.specs.Prelude.{ℕ, ◌+◌, ◌*◌, List, length, vec_items, ◌==◌}
use Rattle.network.specs.declared.orders.Order.{Order}
use Rattle.refusals.specs.declared.Refusal.TheVariants.{OrderLength, OrderSize, OrderNumber}
use Rattle.refusals.specs.Checks.{Verdict, passed, unless, bind, each_from}
use Rattle.network.specs.Permutations.{in_turn}
use Rattle.network.specs.Words.{word, words}

-- the number at i of a list whose first index is called base
abbrev pub number_verdict : ℕ → List ℕ → ℕ → ℕ → Verdict
number_verdict n xs base i = unless (in_turn n xs i) (OrderNumber (base + i)) passed

abbrev pub numbers_checked : ℕ → List ℕ → ℕ → Verdict
numbers_checked n xs base = each_from (number_verdict n xs base) 0 n

-- the sheet's length and its own n, where n is the network's
abbrev pub size_checked : ℕ → List ℕ → Verdict
size_checked n bytes =
    unless (length bytes == 2 + 4 * n) (OrderLength (length bytes))
    (unless (word bytes 0 == n) (OrderSize (word bytes 0))
    passed)

abbrev pub order_checked : ℕ → List ℕ → Verdict
order_checked n bytes =
    bind (size_checked n bytes)
    (λ _. bind (numbers_checked n (words bytes 2 n) 0) (λ _. numbers_checked n (words bytes (2 + 2 * n) n) n))

-- a row order and a column order: each lists, for B's rows or columns, the network's
pub record Orders : Type 0 where
  pub rows : List ℕ
  pub columns : List ℕ

abbrev pub order_of : ℕ → List ℕ → Orders
order_of n bytes = record { rows = words bytes 2 n; columns = words bytes (2 + 2 * n) n }

abbrev pub orders : Order → Orders
orders o = record { rows = vec_items o.rows.numbers; columns = vec_items o.columns.numbers }
