-- What it says of a network sheet that its checks passed. Assumes nothing.
use Rattle.std.proofs.Common.{◌≡◌, ℕ, ◌+◌, ◌*◌, ◌<◌, ◌≤◌, true, ◌&&◌, eqb, ltb, leb, List, length, get_or, Ok, Option, Result, sym, ap, ◌∙◌, subst, add-one, arith}
use Rattle.std.proofs.lemmas.List.FromFn.{get_or-map-range_with_len, length-map-range_with_len}
use Rattle.std.proofs.lemmas.Bool.{and_parts, ltb-true, eqb-true}
use Rattle.network.specs.declared.entries.Entry.{Entry}
use Rattle.refusals.specs.declared.Refusal.{Refusal}
use Rattle.refusals.specs.declared.Refusal.TheVariants.{NetworkCut, ColumnCount, EntryCount, NetworkLength, EntryOutside, EntryNotAfter}
use Rattle.refusals.specs.Checks.{Verdict, passed, unless}
use Rattle.network.specs.Entries.{after, entry_at, entries_of, origin}
use Rattle.network.specs.NetworkSheet.{within, head_checked, follows, earlier, entry_checked, entry_verdict, entries_checked}
use Rattle.network.specs.Words.{word}
use Rattle.network.proofs.NetworkLaw.{within_true}
use Rattle.refusals.proofs.Checking.{unless_passed, each_from_passed}

pub record Head (bytes : List ℕ) (n e : ℕ) : Type 0 where
  pub told : ◌≡◌ {A = ℕ × ℕ} (n, e) (word bytes 0, word bytes 2)
  pub n_fits : (1 ≤ n) × (n ≤ 512)
  pub e_fits : (1 ≤ e) × (e ≤ 8192)
  pub long : length bytes ≡ 4 + 4 * e

pub head_passed : (bytes : List ℕ) (n e : ℕ) → head_checked bytes ≡ Ok (n, e) → Head bytes n e
head_passed bytes n e is =
    let told : Result (ℕ × ℕ) Refusal = Ok (word bytes 0, word bytes 2) in
    let last : Result (ℕ × ℕ) Refusal = unless (eqb (length bytes) (4 + 4 * word bytes 2)) (NetworkLength (length bytes)) told in
    let some : Result (ℕ × ℕ) Refusal = unless (within 1 8192 (word bytes 2)) (EntryCount (word bytes 2)) last in
    let most : Result (ℕ × ℕ) Refusal = unless (within 1 512 (word bytes 0)) (ColumnCount (word bytes 0)) some in
    let a = unless_passed (leb 4 (length bytes)) (NetworkCut (length bytes)) most (n, e) is in
    let b = unless_passed (within 1 512 (word bytes 0)) (ColumnCount (word bytes 0)) some (n, e) a.1 in
    let c = unless_passed (within 1 8192 (word bytes 2)) (EntryCount (word bytes 2)) last (n, e) b.1 in
    let d = unless_passed (eqb (length bytes) (4 + 4 * word bytes 2)) (NetworkLength (length bytes)) told (n, e) c.1 in
    let same : told ≡ Ok (n, e) = d.1 in
    let pairs : ◌≡◌ {A = ℕ × ℕ} (n, e) (word bytes 0, word bytes 2) = cc in
    let n_is = ap (λ (x : ℕ × ℕ). x.0) pairs in
    let e_is = ap (λ (x : ℕ × ℕ). x.1) pairs in
    record {
      told = pairs;
      n_fits = subst (λ (x : ℕ). (1 ≤ x) × (x ≤ 512)) (sym n_is) (within_true 1 512 _ b.0);
      e_fits = subst (λ (x : ℕ). (1 ≤ x) × (x ≤ 8192)) (sym e_is) (within_true 1 8192 _ c.0);
      long = eqb-true _ _ d.0 ∙ ap (λ (x : ℕ). 4 + 4 * x) (sym e_is);
    }

pub entry_passed : (n t : ℕ) (before : Option Entry) (x : Entry) → entry_checked n t before x ≡ passed → (x.row < n) × (x.column < n) × (follows before x ≡ true)
entry_passed n t before x is =
    let last : Verdict = unless (follows before x) (EntryNotAfter t) passed in
    let a = unless_passed (ltb x.row n && ltb x.column n) (EntryOutside t) last tt is in
    let b = unless_passed (follows before x) (EntryNotAfter t) passed tt a.1 in
    let two = and_parts (ltb x.row n) (ltb x.column n) a.0 in
    (ltb-true x.row n two.0, ltb-true x.column n two.1, b.0)

module _ (bytes : List ℕ) (n e : ℕ) (all : entries_checked bytes n e ≡ passed) where
  at_passed : (t : ℕ) → t < e → ((entry_at bytes e t).row < n) × ((entry_at bytes e t).column < n) × (follows (earlier (entry_at bytes e) t) (entry_at bytes e t) ≡ true)
  at_passed t h = entry_passed n t _ _ (each_from_passed (entry_verdict bytes n e) 0 e all t (omega arith) (omega arith))

  entry_is : (t : ℕ) → t < e → get_or (entries_of bytes e) t origin ≡ entry_at bytes e t
  entry_is t h = get_or-map-range_with_len (entry_at bytes e) 0 e t t origin h (omega arith)

  pub inside : (t : ℕ) → t < e → ((get_or (entries_of bytes e) t origin).row < n) × ((get_or (entries_of bytes e) t origin).column < n)
  inside t h = rw (entry_is t h) ((at_passed t h).0, (at_passed t h).1)

  pub rising : (t : ℕ) → t + 1 < e → after (get_or (entries_of bytes e) (t + 1) origin) (get_or (entries_of bytes e) t origin) ≡ true
  rising t h =
      let here : t < e = omega arith in
      let told : follows (earlier (entry_at bytes e) (t + 1)) (entry_at bytes e (t + 1)) ≡ true = (at_passed (t + 1) h).2 in
      let told2 : after (entry_at bytes e (t + 1)) (entry_at bytes e t) ≡ true = subst (λ (s : ℕ). follows (earlier (entry_at bytes e) s) (entry_at bytes e (t + 1)) ≡ true) (add-one t) told in
      rw (entry_is (t + 1) h, entry_is t here) told2

-- what a `Network` promises of itself, of its n and its entries
pub record Kept (n : ℕ) (xs : List Entry) (len : ℕ) : Type 0 where
  pub columns_fit : (1 ≤ n) × (n ≤ 512)
  pub entries_fit : (1 ≤ len) × (len ≤ 8192)
  pub inside : (t : ℕ) → t < len → ((get_or xs t origin).row < n) × ((get_or xs t origin).column < n)
  pub rising : (t : ℕ) → t + 1 < len → after (get_or xs (t + 1) origin) (get_or xs t origin) ≡ true

-- a sheet whose checks passed, with n and e at its head
pub kept : (bytes : List ℕ) (n e : ℕ) → head_checked bytes ≡ Ok (n, e) → entries_checked bytes n e ≡ passed → (len : ℕ) (xs : List Entry) → xs ≡ entries_of bytes e → len ≡ length xs → Kept n xs len
kept bytes n e checked all len xs is long =
    let head = head_passed bytes n e checked in
    let whole : len ≡ e = long ∙ ap length is ∙ length-map-range_with_len (entry_at bytes e) 0 e in
    let there : Kept n (entries_of bytes e) e = record { columns_fit = head.n_fits; entries_fit = head.e_fits; inside = inside bytes n e all; rising = rising bytes n e all } in
    subst (λ (l : ℕ). Kept n xs l) (sym whole) (subst (λ (ys : List Entry). Kept n ys e) (sym is) there)
