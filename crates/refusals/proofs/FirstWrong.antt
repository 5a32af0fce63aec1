-- A chain of checks names the first thing that is wrong. Assumes nothing.
use Rattle.std.proofs.Common.{◌≡◌, ℕ, ◌+◌, ◌<◌, ◌≤◌, Bool, true, false, ◌⊎◌, Ok, Err, Result, sym, refl, subst, inl, inr, ⊎_elim, arith}
use Rattle.std.proofs.lemmas.Bool.{cases_eq}
use Rattle.refusals.specs.declared.Refusal.{Refusal}
use Rattle.refusals.specs.Checks.{Verdict, passed, unless, bind, Answers}
use Rattle.refusals.specs.Judging.{turn, First, NothingWrong, Judges}

-- of the checks whose turn is m or later, r tells the first that fails
pub record Fails (Wrong : Refusal → Type 0) (m : ℕ) (refusal : Refusal) : Type 0 where
  pub cause : Wrong refusal
  pub late : m ≤ turn refusal
  pub no_earlier : (other : Refusal) → m ≤ turn other → turn other < turn refusal → Wrong other → ⊥

abbrev pub From : (Refusal → Type 0) → ℕ → Verdict → Type 0
From Wrong m (Ok x) = (other : Refusal) → m ≤ turn other → Wrong other → ⊥
From Wrong m (Err refusal) = Fails Wrong m refusal

-- one check more in front, of turn m
module _ (Wrong : Refusal → Type 0) (m : ℕ) where
  step_back : (rest : Verdict) → ((other : Refusal) → Wrong other → turn other ≡ m → ⊥) → From Wrong (m + 1) rest → From Wrong m rest
  step_back (Ok x) here later =
      λ other late wrong.
      ⊎_elim (λ (at : turn other ≡ m). here other wrong at) (λ (past : turn other ≡ m → ⊥). later other (omega arith) wrong) (cases_eq (turn other) m)
  step_back (Err refusal) here later = record {
    cause = later.cause;
    late = omega (arith, later.late);
    no_earlier = λ other late before wrong.
        ⊎_elim (λ (at : turn other ≡ m). here other wrong at) (λ (past : turn other ≡ m → ⊥). later.no_earlier other (omega arith) before wrong) (cases_eq (turn other) m);
  }

  pub from_unless : (ok : Bool) (refusal : Refusal) (rest : Verdict) → turn refusal ≡ m → (ok ≡ false → Wrong refusal) → (ok ≡ true → (other : Refusal) → Wrong other → turn other ≡ m → ⊥) → From Wrong (m + 1) rest → From Wrong m (unless ok refusal rest)
  from_unless true refusal rest at bad good later = step_back rest (good refl) later
  from_unless false refusal rest at bad good later = record {
    cause = bad refl;
    late = omega arith;
    no_earlier = λ other late before wrong. omega arith;
  }

pub bind_unless : {X Y : Type 0} (ok : Bool) (refusal : Refusal) (rest : Result X Refusal) (then : X → Result Y Refusal) → bind (unless ok refusal rest) then ≡ unless ok refusal (bind rest then)
bind_unless true refusal rest then = refl
bind_unless false refusal rest then = refl

-- a verdict that nothing is wrong, or that names the first thing that is
abbrev pub Told : (Refusal → Type 0) → Verdict → Type 0
Told Wrong (Ok x) = NothingWrong Wrong
Told Wrong (Err refusal) = First Wrong refusal

pub told_from : (Wrong : Refusal → Type 0) (v : Verdict) → From Wrong 0 v → Told Wrong v
told_from Wrong (Ok x) h = λ refusal wrong. h refusal (omega arith) wrong
told_from Wrong (Err refusal) h = record { cause = h.cause; no_earlier = λ other before wrong. h.no_earlier other (omega arith) before wrong }

-- what holds of the checks holds of the answer that follows them
pub judges : {X : Type 0} (Wrong : Refusal → Type 0) (v : Verdict) (P : X → Type 0) (r : Result X Refusal) → Told Wrong v → Answers v P r → Judges Wrong r
judges Wrong (Ok x) P (Ok y) nothing a = nothing
judges Wrong (Ok x) P (Err refusal) nothing a = inr (a, nothing)
judges {X} Wrong (Err refusal) P r first a = subst (λ (s : Result X Refusal). Judges Wrong s) (sym a) (inl first)

-- both clauses of a call that judges what it reads, from the first of them
pub judges_too : {X : Type 0} (Wrong : Refusal → Type 0) (v : Verdict) (P : X → Type 0) (r : Result X Refusal) → Told Wrong v → Answers v P r → record { answers : Answers v P r; judges : Judges Wrong r }
judges_too Wrong v P r told a = record { answers = a; judges = judges Wrong v P r told a }

pub bind_last : (v : Verdict) → bind v (λ _. passed) ≡ v
bind_last (Ok tt) = refl
bind_last (Err refusal) = refl

-- no check stands before turn m
pub from_late : (Wrong : Refusal → Type 0) (m : ℕ) (v : Verdict) → ((other : Refusal) → Wrong other → m ≤ turn other) → From Wrong m v → From Wrong 0 v
from_late Wrong m (Ok x) all h = λ other low wrong. h other (all other wrong) wrong
from_late Wrong m (Err refusal) all h = record {
  cause = h.cause;
  late = omega arith;
  no_earlier = λ other low before wrong. h.no_earlier other (all other wrong) before wrong;
}

-- two sheets one after the other, where what can be wrong with the second stands later than what is wrong with the first
module _ (One Two : Refusal → Type 0) (m : ℕ) (early : (refusal : Refusal) → First One refusal → turn refusal < m) (later : (refusal : Refusal) → Two refusal → m ≤ turn refusal) where
  second : NothingWrong One → (w : Verdict) → Told Two w → Told (λ refusal. One refusal ⊎ Two refusal) w
  second none (Ok x) nothing = λ refusal wrong. ⊎_elim (none refusal) (nothing refusal) wrong
  second none (Err refusal) first = record {
    cause = inr first.cause;
    no_earlier = λ other before wrong. ⊎_elim (none other) (first.no_earlier other before) wrong;
  }

  pub told_then : (v w : Verdict) → Told One v → Told Two w → Told (λ refusal. One refusal ⊎ Two refusal) (bind v (λ _. w))
  told_then (Ok x) w none two = second none w two
  told_then (Err refusal) w first two = record {
    cause = inl first.cause;
    no_earlier = λ other before wrong. ⊎_elim (first.no_earlier other before) (λ (late : Two other). omega (arith, early refusal first, later other late)) wrong;
  }
