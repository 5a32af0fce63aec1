-- The checks of a network sheet name the first thing that is wrong with it. Assumes nothing.
use Rattle.std.proofs.Common.{◌≡◌, ℕ, zero, suc, ◌+◌, ◌*◌, ◌^◌, ◌<◌, ◌≤◌, Bool, true, false, ◌&&◌, eqb, ltb, leb, List, length, sym, refl, ap, ◌∙◌, subst, inl, inr, ⊎_elim, add-one, arith}
use Rattle.std.proofs.lemmas.Bool.{leb-true, leb-false, ltb-true, ltb-false, eqb-true, eqb-false, and_parts, and_cases, true≢false, both_ways, cases_lt}
use Rattle.refusals.specs.declared.Refusal.{Refusal}
use Rattle.refusals.specs.declared.Refusal.TheVariants.{NetworkCut, ColumnCount, EntryCount, NetworkLength, EntryOutside, EntryNotAfter}
use Rattle.refusals.specs.Checks.{Verdict, passed, unless, bind, each_from}
use Rattle.network.specs.Entries.{after, entry_at}
use Rattle.network.specs.NetworkSheet.{within, follows, earlier, entry_verdict, entries_checked, network_checked}
use Rattle.network.specs.Words.{word}
use Rattle.refusals.specs.Judging.{turn, First}
use Rattle.network.specs.Wrong.{Outside, NetworkWrong}
use Rattle.network.specs.Wrong.NetworkWrong.{cut, columns, entries, long, outside, not_after}
use Rattle.refusals.proofs.FirstWrong.{From, from_unless, bind_unless, Told, told_from}

pub outside_from : (low high x : ℕ) → within low high x ≡ false → Outside low high x
outside_from low high x e =
    ⊎_elim (λ (a : leb low x ≡ false). inl (leb-false low x a)) (λ (b : leb x high ≡ false). inr (leb-false x high b)) (and_cases (leb low x) (leb x high) e)

pub within_true : (low high x : ℕ) → within low high x ≡ true → (low ≤ x) × (x ≤ high)
within_true low high x e =
    let two = and_parts (leb low x) (leb x high) e in
    (leb-true low x two.0, leb-true x high two.1)

pub never_outside : (low high x : ℕ) → within low high x ≡ true → Outside low high x → ⊥
never_outside low high x e out =
    let fits = within_true low high x e in
    ⊎_elim (λ (l : x < low). omega arith) (λ (h : high < x). omega arith) out

module _ (bytes : List ℕ) where
  -- ---- a check that passes leaves nothing wrong at its turn
  not_cut : leb 4 (length bytes) ≡ true → (g : Refusal) → NetworkWrong bytes g → turn g ≡ 0 → ⊥
  not_cut ok g (cut short) at = omega (arith, leb-true 4 (length bytes) ok)
  not_cut ok g (columns out) at = omega arith
  not_cut ok g (entries out) at = omega arith
  not_cut ok g (long other) at = omega arith
  not_cut ok g (outside t h out) at = omega arith
  not_cut ok g (not_after t h out) at = omega arith

  not_columns : within 1 512 (word bytes 0) ≡ true → (g : Refusal) → NetworkWrong bytes g → turn g ≡ 1 → ⊥
  not_columns ok g (cut short) at = omega arith
  not_columns ok g (columns out) at = never_outside 1 512 _ ok out
  not_columns ok g (entries out) at = omega arith
  not_columns ok g (long other) at = omega arith
  not_columns ok g (outside t h out) at = omega arith
  not_columns ok g (not_after t h out) at = omega arith

  not_entries : within 1 8192 (word bytes 2) ≡ true → (g : Refusal) → NetworkWrong bytes g → turn g ≡ 2 → ⊥
  not_entries ok g (cut short) at = omega arith
  not_entries ok g (columns out) at = omega arith
  not_entries ok g (entries out) at = never_outside 1 8192 _ ok out
  not_entries ok g (long other) at = omega arith
  not_entries ok g (outside t h out) at = omega arith
  not_entries ok g (not_after t h out) at = omega arith

  not_long : eqb (length bytes) (4 + 4 * word bytes 2) ≡ true → (g : Refusal) → NetworkWrong bytes g → turn g ≡ 3 → ⊥
  not_long ok g (cut short) at = omega arith
  not_long ok g (columns out) at = omega arith
  not_long ok g (entries out) at = omega arith
  not_long ok g (long other) at = other (eqb-true _ _ ok)
  not_long ok g (outside t h out) at = omega arith
  not_long ok g (not_after t h out) at = omega arith

  abbrev in_rows : ℕ → Bool
  in_rows t = ltb (entry_at bytes (word bytes 2) t).row (word bytes 0)

  abbrev in_columns : ℕ → Bool
  in_columns t = ltb (entry_at bytes (word bytes 2) t).column (word bytes 0)

  not_outside : (t : ℕ) → (in_rows t && in_columns t) ≡ true → (g : Refusal) → NetworkWrong bytes g → turn g ≡ 4 + 2 * t → ⊥
  not_outside t ok g (cut short) at = omega arith
  not_outside t ok g (columns out) at = omega arith
  not_outside t ok g (entries out) at = omega arith
  not_outside t ok g (long other) at = omega arith
  not_outside t ok g (outside s h out) at =
      let same : s ≡ t = omega arith in
      let two = and_parts (in_rows s) (in_columns s) (subst (λ (x : ℕ). (in_rows x && in_columns x) ≡ true) (sym same) ok) in
      ⊎_elim
      (λ (r : word bytes 0 ≤ (entry_at bytes (word bytes 2) s).row). omega (arith, ltb-true _ _ two.0))
      (λ (c : word bytes 0 ≤ (entry_at bytes (word bytes 2) s).column). omega (arith, ltb-true _ _ two.1))
      out
  not_outside t ok g (not_after s h out) at = omega arith

  abbrev in_order : ℕ → Bool
  in_order t = follows (earlier (entry_at bytes (word bytes 2)) t) (entry_at bytes (word bytes 2) t)

  in_order_more : (t : ℕ) → in_order (t + 1) ≡ after (entry_at bytes (word bytes 2) (t + 1)) (entry_at bytes (word bytes 2) t)
  in_order_more t =
      ap (λ (s : ℕ). follows (earlier (entry_at bytes (word bytes 2)) s) (entry_at bytes (word bytes 2) (t + 1))) (add-one t)

  not_misplaced : (t : ℕ) → in_order t ≡ true → (g : Refusal) → NetworkWrong bytes g → turn g ≡ 4 + 2 * t + 1 → ⊥
  not_misplaced t ok g (cut short) at = omega arith
  not_misplaced t ok g (columns out) at = omega arith
  not_misplaced t ok g (entries out) at = omega arith
  not_misplaced t ok g (long other) at = omega arith
  not_misplaced t ok g (outside s h out) at = omega arith
  not_misplaced t ok g (not_after s h out) at =
      let same : t ≡ s + 1 = omega arith in
      both_ways _ out (sym (in_order_more s) ∙ subst (λ (x : ℕ). in_order x ≡ true) same ok)

  -- ---- a check that fails names what is wrong
  is_outside : (t : ℕ) → t < word bytes 2 → (in_rows t && in_columns t) ≡ false → NetworkWrong bytes (EntryOutside t)
  is_outside t h fails =
      outside t h
      (⊎_elim (λ (r : in_rows t ≡ false). inl (ltb-false _ _ r)) (λ (c : in_columns t ≡ false). inr (ltb-false _ _ c)) (and_cases (in_rows t) (in_columns t) fails))

  is_misplaced : (t : ℕ) → t < word bytes 2 → in_order t ≡ false → NetworkWrong bytes (EntryNotAfter t)
  is_misplaced zero h fails = absurd (true≢false fails)
  is_misplaced (suc t) h fails =
      subst (λ (s : ℕ). NetworkWrong bytes (EntryNotAfter s)) (add-one t)
      (not_after t (omega arith) (sym (in_order_more t) ∙ subst (λ (s : ℕ). in_order s ≡ false) (sym (add-one t)) fails))

  past_last : (t : ℕ) → t ≡ word bytes 2 → (g : Refusal) → 4 + 2 * t ≤ turn g → NetworkWrong bytes g → ⊥
  past_last t end g late (cut short) = omega arith
  past_last t end g late (columns out) = omega arith
  past_last t end g late (entries out) = omega arith
  past_last t end g late (long other) = omega arith
  past_last t end g late (outside s h out) = omega arith
  past_last t end g late (not_after s h out) = omega arith

  one_entry : (t : ℕ) (rest : Verdict) → bind (entry_verdict bytes (word bytes 0) (word bytes 2) t) (λ _. rest) ≡ unless (in_rows t && in_columns t) (EntryOutside t) (unless (in_order t) (EntryNotAfter t) rest)
  one_entry t rest =
      bind_unless (in_rows t && in_columns t) (EntryOutside t) (unless (in_order t) (EntryNotAfter t) passed) (λ _. rest)
      ∙ ap (unless (in_rows t && in_columns t) (EntryOutside t)) (bind_unless (in_order t) (EntryNotAfter t) passed (λ _. rest))

  from_entries : (count t : ℕ) → t + count ≡ word bytes 2 → From (NetworkWrong bytes) (4 + 2 * t) (each_from (entry_verdict bytes (word bytes 0) (word bytes 2)) t count)
  from_entries zero t end = λ g late wrong. past_last t (omega arith) g late wrong
  from_entries (suc count) t end =
      let rest = each_from (entry_verdict bytes (word bytes 0) (word bytes 2)) (t + 1) count in
      let later : From (NetworkWrong bytes) (4 + 2 * (t + 1)) rest = from_entries count (t + 1) (omega arith) in
      let next : 4 + 2 * (t + 1) ≡ 4 + 2 * t + 1 + 1 = omega arith in
      subst (From (NetworkWrong bytes) (4 + 2 * t)) (sym (one_entry t rest))
      (from_unless (NetworkWrong bytes) (4 + 2 * t) (in_rows t && in_columns t) (EntryOutside t) _ refl (is_outside t (omega arith)) (not_outside t)
      (from_unless (NetworkWrong bytes) (4 + 2 * t + 1) (in_order t) (EntryNotAfter t) rest (omega arith) (is_misplaced t (omega arith)) (not_misplaced t)
      (subst (λ (m : ℕ). From (NetworkWrong bytes) m rest) next later)))

  -- ---- the whole sheet
  abbrev last : Verdict
  last = unless (eqb (length bytes) (4 + 4 * word bytes 2)) (NetworkLength (length bytes)) (entries_checked bytes (word bytes 0) (word bytes 2))

  abbrev some : Verdict
  some = unless (within 1 8192 (word bytes 2)) (EntryCount (word bytes 2)) last

  abbrev most : Verdict
  most = unless (within 1 512 (word bytes 0)) (ColumnCount (word bytes 0)) some

  chain : network_checked bytes ≡ unless (leb 4 (length bytes)) (NetworkCut (length bytes)) most
  chain = simp bind_unless

  pub network_law : Told (NetworkWrong bytes) (network_checked bytes)
  network_law =
      told_from (NetworkWrong bytes) (network_checked bytes)
      (subst (From (NetworkWrong bytes) 0) (sym chain)
      (from_unless (NetworkWrong bytes) 0 (leb 4 (length bytes)) (NetworkCut (length bytes)) most refl (λ fails. cut (leb-false 4 (length bytes) fails)) not_cut
      (from_unless (NetworkWrong bytes) 1 (within 1 512 (word bytes 0)) (ColumnCount (word bytes 0)) some refl (λ fails. columns (outside_from 1 512 _ fails)) not_columns
      (from_unless (NetworkWrong bytes) 2 (within 1 8192 (word bytes 2)) (EntryCount (word bytes 2)) last refl (λ fails. entries (outside_from 1 8192 _ fails)) not_entries
      (from_unless (NetworkWrong bytes) 3 (eqb (length bytes) (4 + 4 * word bytes 2)) (NetworkLength (length bytes)) (entries_checked bytes (word bytes 0) (word bytes 2)) refl (λ fails. long (eqb-false _ _ fails)) not_long
      (from_entries (word bytes 2) 0 (omega arith)))))))

  -- what is wrong first has its turn before any check of an order sheet
  few : (refusal : Refusal) → First (NetworkWrong bytes) refusal → 2 < turn refusal → word bytes 2 ≤ 8192
  few refusal first late =
      ⊎_elim
      (λ (many : 8192 < word bytes 2). absurd (first.no_earlier (EntryCount (word bytes 2)) late (entries (inr many))))
      (λ (enough : word bytes 2 ≤ 8192). enough)
      (cases_lt 8192 (word bytes 2))

  soon : (refusal : Refusal) → First (NetworkWrong bytes) refusal → NetworkWrong bytes refusal → turn refusal < 2 ^ 20
  soon refusal first (cut short) = omega arith
  soon refusal first (columns out) = omega arith
  soon refusal first (entries out) = omega arith
  soon refusal first (long other) = omega arith
  soon refusal first (outside t h out) = omega (arith, few (EntryOutside t) first (omega arith))
  soon refusal first (not_after t h out) = omega (arith, few (EntryNotAfter (t + 1)) first (omega arith))

  pub early : (refusal : Refusal) → First (NetworkWrong bytes) refusal → turn refusal < 2 ^ 20
  early refusal first = soon refusal first first.cause
