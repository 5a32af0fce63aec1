-- The marks of column k, as it takes up the columns that it awaits. Assumes nothing.
use Rattle.std.proofs.Common.{◌≡◌, ℕ, suc, ◌+◌, ◌<◌, Bool, true, false, ◌&&◌, ◌||◌, ltb, List, length, get_or, sym, ap, ◌∙◌, subst, inr, add-one, arith}
use Rattle.std.proofs.lemmas.List.FromFn.{get_or-map-range_with_len, fill_by_all}
use Rattle.std.proofs.lemmas.Bool.{lt-ltb}
use Rattle.network.specs.Permutations.{met}
use Rattle.elimination.specs.Fill.{filled}
use Rattle.elimination.specs.Plans.{rows_of}
use Rattle.elimination.proofs.Filling.{step_skips, step_takes, settled_to}
use Rattle.elimination.proofs.Storing.{met_kept}
use Rattle.symbolic.specs.declared.tables.Table.{Table}
use Rattle.symbolic.specs.Marks.{marks_in}
use Rattle.symbolic.specs.Tables.{tabled, filled_from}
use Rattle.symbolic.proofs.Spreading.{Spread}

-- the marks of column k when the columns below j were taken up
abbrev pub TakenUp : Table → ℕ → ℕ → List Bool → Type 0
TakenUp table k j marks = (i : ℕ) → i < table.n → get_or marks i false ≡ filled (tabled table) j i k

module _ (table : Table) (k : ℕ) (inside : k < table.n) where
  abbrev n : ℕ
  n = table.n

  abbrev Taken : ℕ → List Bool → Type 0
  Taken = TakenUp table k

  pub taken_none : (marks : List Bool) → marks ≡ marks_in (tabled table) n k → Taken 0 marks
  taken_none marks is i h = ap (λ (xs : List Bool). get_or xs i false) is ∙ get_or-map-range_with_len (λ r. tabled table r k) 0 n i i false h (omega arith)

  next : (j : ℕ) (marks : List Bool) → ((i : ℕ) → i < n → get_or marks i false ≡ filled (tabled table) (suc j) i k) → Taken (j + 1) marks
  next j marks = subst (λ (m : ℕ). (i : ℕ) → i < n → get_or marks i false ≡ filled (tabled table) m i k) (sym (add-one j))

  pub taken_skips : (j : ℕ) (marks : List Bool) → j < k → get_or marks j false ≡ false → Taken j marks → Taken (j + 1) marks
  taken_skips j marks below off so_far =
      next j marks (λ i h. so_far i h ∙ step_skips (tabled table) j i k (sym (so_far j (omega arith)) ∙ off))

  pub taken_more : (j : ℕ) (old marks : List Bool) (rows : List ℕ) → j < k → rows ≡ rows_of (filled_from table) n j → get_or old j false ≡ true → length old ≡ n → Taken j old → Spread j rows old marks → Taken (j + 1) marks
  taken_more j old marks rows below is on long so_far spread =
      next j marks
      (λ i h.
      spread i (omega arith)
      ∙ (λ d. so_far i h d || (ltb j i && met i (is d)))
      ∙ ap (λ (b : Bool). filled (tabled table) j i k || (ltb j i && b)) (met_kept (λ r. filled_from table r j) i n ∙ ap (λ (b : Bool). b && filled_from table i j) (lt-ltb i n h))
      ∙ step_takes (tabled table) n j i k below (omega arith) (sym (so_far j (omega arith)) ∙ on))

  pub taken_all : (marks : List Bool) → length marks ≡ n → Taken k marks → marks ≡ marks_in (filled_from table) n k
  taken_all marks long all =
      fill_by_all (λ i. filled_from table i k) marks n false long
      (λ i h. all i h ∙ sym (settled_to (tabled table) n k i k (omega arith) (inr (omega arith))))
