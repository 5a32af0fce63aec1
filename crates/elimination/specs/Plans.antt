-- What a plan tells: the filled entries as they are stored, what each column awaits, the levels, the sequence, the cluster levels. Assumes nothing.
use Rattle.std.specs.Prelude.{ℕ, zero, suc, ◌+◌, max, Bool, List, [], ◌∷◌, ◌++◌, map, length, fold, filter, nat_eq, nat_le, slice_index}
use Rattle.std.specs.List.{range_with_len, prefix_len}
use Rattle.network.specs.declared.entries.Entry.{Entry}
use Rattle.network.specs.NetworkSheet.{Pattern}
use Rattle.network.specs.OrderSheet.{Orders}
use Rattle.network.specs.Permuted.{permuted, placed_at}
use Rattle.refusals.specs.declared.Refusal.TheVariants.{FillLimit, DiagonalNotFilled}
use Rattle.refusals.specs.Checks.{Verdict, passed, unless, bind, each_from}
use Rattle.elimination.specs.Fill.{Places, filled}

-- of n columns, f tells which places are filled

-- the filled rows of column k, rising
abbrev pub rows_of : Places → ℕ → ℕ → List ℕ
rows_of f n k = filter (λ i. f i k) (range_with_len 0 n)

-- the columns that column k awaits, rising: its filled rows above the diagonal
abbrev pub awaited_by : Places → ℕ → List ℕ
awaited_by f k = filter (λ j. f j k) (range_with_len 0 k)

abbrev pub in_column : ℕ → ℕ → Entry
in_column k i = record { row = i; column = k }

-- the filled entries of the columns below k, by column, then by row
abbrev pub stored : Places → ℕ → ℕ → List Entry
stored f n zero = []
stored f n (suc k) = stored f n k ++ map (in_column k) (rows_of f n k)

-- the place at which column k begins
abbrev pub start : Places → ℕ → ℕ → ℕ
start f n k = length (stored f n k)

-- the place of (i, k): after the columns below k and the filled rows of column k above i
abbrev pub stored_place : Places → ℕ → ℕ → ℕ → ℕ
stored_place f n i k = start f n k + length (filter (λ r. f r k) (range_with_len 0 i))

-- 0 where nothing is awaited, else 1 plus the largest level that is
abbrev pub level_past : List ℕ → List ℕ → ℕ
level_past levels awaited = fold (λ highest j. max highest (slice_index levels j + 1)) 0 awaited

-- the levels of the columns below k
abbrev pub levels_of : Places → ℕ → List ℕ
levels_of f zero = []
levels_of f (suc k) = levels_of f k ++ level_past (levels_of f k) (awaited_by f k) ∷ []

-- the columns of one level, rising
abbrev pub of_level : List ℕ → ℕ → List ℕ
of_level levels l = filter (λ k. nat_eq (slice_index levels k) l) (range_with_len 0 (length levels))

-- the columns of the levels below l, by level, then by number
abbrev pub by_level : List ℕ → ℕ → List ℕ
by_level levels zero = []
by_level levels (suc l) = by_level levels l ++ of_level levels l

-- no level reaches the number of columns
abbrev pub sequence_of : List ℕ → List ℕ
sequence_of levels = by_level levels (length levels)

abbrev pub wide : List ℕ → ℕ → ℕ → Bool
wide levels threshold l = nat_le threshold (length (of_level levels l))

-- how many levels are wide before the first narrow one
abbrev pub cluster_levels_of : List ℕ → ℕ → ℕ
cluster_levels_of levels threshold = prefix_len (wide levels threshold) (range_with_len 0 (length levels))

-- ---- of a network and its orders
abbrev pub filling : Pattern → Orders → Places
filling m o = filled (permuted m o) m.size

abbrev pub limit_verdict : Places → ℕ → ℕ → Verdict
limit_verdict f n k = unless (nat_le (start f n (k + 1)) 8192) (FillLimit k) passed

-- at most 8,192 filled entries, or the column that has the 8,193rd
abbrev pub limit_checked : Places → ℕ → Verdict
limit_checked f n = each_from (limit_verdict f n) 0 n

abbrev pub diagonal_verdict : Places → ℕ → Verdict
diagonal_verdict f k = unless (f k k) (DiagonalNotFilled k) passed

abbrev pub diagonals_checked : Places → ℕ → Verdict
diagonals_checked f n = each_from (diagonal_verdict f) 0 n

abbrev pub plan_checked : Pattern → Orders → Verdict
plan_checked m o = bind (limit_checked (filling m o) m.size) (λ _. diagonals_checked (filling m o) m.size)

-- a plan, as it is told
pub record PlanTold : Type 0 where
  pub size : ℕ
  -- the row order and the column order
  pub orders : Orders
  pub threshold : ℕ
  -- the filled entries in stored order
  pub stored_entries : List Entry
  -- of each entry of the network sheet, its place among them
  pub places : List ℕ
  -- of each column, its filled rows and the columns that it awaits
  pub rows : List (List ℕ)
  pub awaited : List (List ℕ)
  pub levels : List ℕ
  pub sequence : List ℕ
  pub cluster_levels : ℕ

abbrev pub entry_place : Pattern → Orders → ℕ → ℕ
entry_place m o t = stored_place (filling m o) m.size (placed_at m o t).row (placed_at m o t).column

abbrev pub plan_of : Pattern → Orders → ℕ → PlanTold
plan_of m o t = record {
  size = m.size;
  orders = o;
  threshold = t;
  stored_entries = stored (filling m o) m.size m.size;
  places = map (entry_place m o) (range_with_len 0 (length m.entries));
  rows = map (rows_of (filling m o) m.size) (range_with_len 0 m.size);
  awaited = map (awaited_by (filling m o)) (range_with_len 0 m.size);
  levels = levels_of (filling m o) m.size;
  sequence = sequence_of (levels_of (filling m o) m.size);
  cluster_levels = cluster_levels_of (levels_of (filling m o) m.size) t;
}
