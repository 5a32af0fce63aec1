-- The check that the filled pattern is not too large, column by column. Assumes nothing.
use Rattle.std.proofs.Common.{◌≡◌, ℕ, ◌+◌, ◌<◌, ◌≤◌, Bool, ◌⊎◌, Ok, Err, Result, sym, refl, ap, subst, inl, inr, ⊎_elim}
use Rattle.std.proofs.lemmas.Bool.{le-leb, lt-leb}
use Rattle.refusals.specs.declared.Refusal.{Refusal}
use Rattle.refusals.specs.declared.Refusal.TheVariants.{OutOfMemory, FillLimit}
use Rattle.refusals.specs.Checks.{Verdict, passed, unless}
use Rattle.elimination.specs.Fill.{Places}
use Rattle.elimination.specs.Plans.{start, limit_verdict}
use Rattle.symbolic.specs.Trying.{Tries}

pub within_limit : (f : Places) (n k : ℕ) → start f n (k + 1) ≤ 8192 → limit_verdict f n k ≡ passed
within_limit f n k few = ap (λ (b : Bool). unless b (FillLimit k) passed) (le-leb _ _ few)

pub past_limit : (f : Places) (n k : ℕ) → 8192 < start f n (k + 1) → limit_verdict f n k ≡ Err (FillLimit k)
past_limit f n k many = ap (λ (b : Bool). unless b (FillLimit k) passed) (lt-leb _ _ many)

pub tries_refused : {X : Type 0} (P : X → Type 0) (v : Verdict) (refusal : Refusal) → v ≡ Err refusal → Tries v P (Err refusal)
tries_refused P v refusal is = subst (λ (w : Verdict). Tries w P (Err refusal)) (sym is) (inl refl)

-- a grant says that the check passed
pub tries_passed : {X : Type 0} (P : X → Type 0) (v : Verdict) (x : X) → Tries v P (Ok x) → (v ≡ passed) × P x
tries_passed P (Ok tt) x h = (refl, h)
tries_passed {X} P (Err refusal) x h = absurd (⊎_elim (λ (e : ◌≡◌ {A = Result X Refusal} (Ok x) (Err refusal)). cc) (λ (e : ◌≡◌ {A = Result X Refusal} (Ok x) (Err OutOfMemory)). cc) h)

-- a refusal is the check's, or want of memory
pub tries_which : {X : Type 0} (P : X → Type 0) (v : Verdict) (refusal : Refusal) → Tries v P (Err refusal) → (v ≡ Err refusal) ⊎ (refusal ≡ OutOfMemory)
tries_which P (Ok x) refusal h = inr h
tries_which {X} P (Err other) refusal h =
    ⊎_elim (λ (e : ◌≡◌ {A = Result X Refusal} (Err refusal) (Err other)). inl (cc)) (λ (e : ◌≡◌ {A = Result X Refusal} (Err refusal) (Err OutOfMemory)). inr (cc)) h
