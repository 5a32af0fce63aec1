-- One turn of the loop that checks a network sheet's entries. Assumes nothing.
use Rattle.std.proofs.Common.{◌≡◌, ℕ, ◌+◌, ◌-◌, ◌<◌, List, [], ◌∷◌, Some, None, Err, Option, sym, refl, ap, ◌∙◌, subst, add-one, arith}
use Rattle.network.specs.declared.entries.Entry.{Entry}
use Rattle.refusals.specs.declared.Refusal.{Refusal}
use Rattle.refusals.specs.Checks.{Verdict, passed, each_from}
use Rattle.network.specs.Entries.{entry_at, entries_of}
use Rattle.network.specs.NetworkSheet.{entry_checked, entry_verdict, entries_checked, earlier}
use Rattle.refusals.proofs.Checking.{each_from_goes, each_from_stops}
use Rattle.network.proofs.Remaining.{Turned, none_turned, turned_all, turn_more, turn_is, turned_more}

-- the first t entries passed, and these are left
pub record Passed (bytes : List ℕ) (n e t : ℕ) (before : Option Entry) (left : List Entry) : Type 0 where
  pub turned : Turned (entry_at bytes e) e t left
  pub one_before : before ≡ earlier (entry_at bytes e) t
  pub checks : each_from (entry_verdict bytes n e) t (e - t) ≡ entries_checked bytes n e

pub none_passed : (bytes : List ℕ) (n e t : ℕ) (left : List Entry) → t ≡ 0 → left ≡ entries_of bytes e → Passed bytes n e t None left
none_passed bytes n e t left start all =
    let whole : e - 0 ≡ e = omega arith in
    subst (λ (k : ℕ). Passed bytes n e k None left) (sym start)
    record {
      turned = none_turned (entry_at bytes e) e 0 left refl all;
      one_before = refl;
      checks = ap (each_from (entry_verdict bytes n e) 0) whole;
    }

module _ (bytes : List ℕ) (n e t : ℕ) (before : Option Entry) (left : List Entry) (so_far : Passed bytes n e t before left) where
  pub all_passed : left ≡ [] → passed ≡ entries_checked bytes n e
  all_passed none =
      let over : e - t ≡ 0 = omega (arith, turned_all (entry_at bytes e) e t left so_far.turned none) in
      ap (each_from (entry_verdict bytes n e) t) (sym over) ∙ so_far.checks

  -- the next entry, and the check of it as entry i
  module _ (i : ℕ) (x : Entry) (rest : List Entry) (some : left ≡ x ∷ rest) (place : i ≡ t) where
    next : t < e
    next = turn_more (entry_at bytes e) e t left so_far.turned x rest some

    is : x ≡ entry_at bytes e t
    is = turn_is (entry_at bytes e) e t left so_far.turned x rest some

    said : (v : Verdict) → v ≡ entry_checked n i before x → entry_verdict bytes n e t ≡ v
    said v says = sym (says ∙ (λ d. entry_checked n (place d) (so_far.one_before d) (is d)))

    pub one_more : passed ≡ entry_checked n i before x → (j : ℕ) → j ≡ t + 1 → Passed bytes n e j (Some x) rest
    one_more ok j after =
        subst (λ (k : ℕ). Passed bytes n e k (Some x) rest) (sym after)
        record {
          turned = turned_more (entry_at bytes e) e t left so_far.turned x rest some (t + 1) refl;
          one_before = rw add-one (ap Some is);
          checks = sym (each_from_goes (entry_verdict bytes n e) t e next (said passed ok)) ∙ so_far.checks;
        }

    pub stops : (refusal : Refusal) → Err refusal ≡ entry_checked n i before x → Err refusal ≡ entries_checked bytes n e
    stops refusal fails = sym (each_from_stops (entry_verdict bytes n e) t e refusal next (said (Err refusal) fails)) ∙ so_far.checks
