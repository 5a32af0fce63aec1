-- Checks made one after another: as a loop makes them, and what it says that all passed. Assumes nothing.
use Rattle.std.proofs.Common.{◌≡◌, ℕ, zero, suc, ◌+◌, ◌-◌, ◌<◌, ◌≤◌, Bool, true, false, Ok, Err, Result, sym, refl, ap, ◌∙◌, subst, ⊎_elim, arith}
use Rattle.std.proofs.lemmas.Bool.{cases_eq}
use Rattle.refusals.specs.declared.Refusal.{Refusal}
use Rattle.refusals.specs.declared.Refusal.TheVariants.{OutOfMemory}
use Rattle.refusals.specs.Checks.{Verdict, passed, unless, bind, each_from, Answers, Passes}

-- ---- what is left to check gives the answer
each_from_more : (check : ℕ → Verdict) (t n : ℕ) → t < n → each_from check t (n - t) ≡ bind (check t) (λ _. each_from check (t + 1) (n - (t + 1)))
each_from_more check t n h = let e : n - t ≡ suc (n - (t + 1)) = omega arith in rw e

pub each_from_goes : (check : ℕ → Verdict) (t n : ℕ) → t < n → check t ≡ passed → each_from check t (n - t) ≡ each_from check (t + 1) (n - (t + 1))
each_from_goes check t n h ok = each_from_more check t n h ∙ ap (λ v. bind v (λ _. each_from check (t + 1) (n - (t + 1)))) ok

pub each_from_stops : (check : ℕ → Verdict) (t n : ℕ) (refusal : Refusal) → t < n → check t ≡ Err refusal → each_from check t (n - t) ≡ Err refusal
each_from_stops check t n refusal h fails = each_from_more check t n h ∙ ap (λ v. bind v (λ _. each_from check (t + 1) (n - (t + 1)))) fails

-- ---- all passed
pub unless_passed : {X : Type 0} (ok : Bool) (refusal : Refusal) (rest : Result X Refusal) (x : X) → unless ok refusal rest ≡ Ok x → (ok ≡ true) × (rest ≡ Ok x)
unless_passed true refusal rest x e = (refl, e)
unless_passed false refusal rest x e = cc

-- the first of two
pub bind_passed : {X Y : Type 0} (first : Result X Refusal) (rest : X → Result Y Refusal) (y : Y) → bind first rest ≡ Ok y → (x : X) × (first ≡ Ok x) × (rest x ≡ Ok y)
bind_passed (Ok x) rest y e = (x, refl, e)
bind_passed (Err refusal) rest y e = cc

only : (v : Verdict) (x : Unit {0}) → v ≡ Ok x → v ≡ passed
only v tt e = e

pub each_from_passed : (check : ℕ → Verdict) (t count : ℕ) → each_from check t count ≡ passed → (k : ℕ) → t ≤ k → k < t + count → check k ≡ passed
each_from_passed check t zero e k low high = absurd (omega arith)
each_from_passed check t (suc count) e k low high =
    let two = bind_passed (check t) (λ _. each_from check (t + 1) count) tt e in
    ⊎_elim
    (λ (here : t ≡ k). subst (λ (j : ℕ). check j ≡ passed) here (only (check t) two.0 two.1))
    (λ (past : t ≡ k → ⊥). each_from_passed check (t + 1) count two.2 k (omega arith) (omega arith))
    (cases_eq t k)

-- ---- what a check answers that hands on what it looked at
pub passes_ok : {X Y : Type 0} (v : Result Y Refusal) (P : X → Type 0) (y : Y) (x : X) → v ≡ Ok y → P x → Passes v P (Ok x)
passes_ok {X} v P y x ok holds = subst (λ (w : Result _ Refusal). Passes w P (Ok x)) (sym ok) holds

pub passes_err : {X Y : Type 0} (v : Result Y Refusal) (P : X → Type 0) (refusal : Refusal) (r : Result X Refusal) → v ≡ Err refusal → r ≡ Err refusal → Passes v P r
passes_err v P refusal r fails is = subst (λ (w : Result _ Refusal). Passes w P r) (sym fails) is

pub passes_held : {X : Type 0} (v : Verdict) (P : X → Type 0) (x : X) → Passes v P (Ok x) → (v ≡ passed) × P x
passes_held (Ok tt) P x holds = (refl, holds)
passes_held (Err refusal) P x is = cc

pub passes_told : {X Y : Type 0} (v : Result Y Refusal) (P : X → Type 0) (refusal : Refusal) → Passes v P (Err refusal) → v ≡ Err refusal
passes_told (Ok y) P refusal never = absurd never
passes_told {X} {Y} (Err other) P refusal is = cc

pub passes_as : {X : Type 0} (v w : Verdict) (P Q : X → Type 0) (r : Result X Refusal) → v ≡ w → ((x : X) → P x → Q x) → Passes v P r → Passes w Q r
passes_as (Ok y) w P Q (Ok x) same more holds = subst (λ (u : Verdict). Passes u Q (Ok x)) same (more x holds)
passes_as (Ok y) w P Q (Err refusal) same more never = absurd never
passes_as (Err refusal) w P Q r same more is = subst (λ (u : Verdict). Passes u Q r) same is

-- ---- what a call answers whose checks come to a verdict
pub answers_ok : {X : Type 0} (v : Verdict) (P : X → Type 0) (x : X) → v ≡ passed → P x → Answers v P (Ok x)
answers_ok v P x ok holds = subst (λ (w : Verdict). Answers w P (Ok x)) (sym ok) holds

pub answers_err : {X : Type 0} (v : Verdict) (P : X → Type 0) (refusal : Refusal) (r : Result X Refusal) → v ≡ Err refusal → r ≡ Err refusal → Answers v P r
answers_err v P refusal r fails is = subst (λ (w : Verdict). Answers w P r) (sym fails) is

pub answers_wanting : {X : Type 0} (v : Verdict) (P : X → Type 0) (r : Result X Refusal) → v ≡ passed → r ≡ Err OutOfMemory → Answers v P r
answers_wanting {X} v P r ok is = subst (λ (w : Verdict). Answers w P r) (sym ok) (subst (λ (q : Result X Refusal). Answers passed P q) (sym is) refl)
