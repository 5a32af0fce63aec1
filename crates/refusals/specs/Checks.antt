-- Checks made one after another: the first that fails gives the answer. Assumes nothing.
use Rattle.std.specs.Prelude.{◌≡◌, ℕ, zero, suc, ◌+◌, Bool, cond, Ok, Err, Result, MatchResult}
use Rattle.refusals.specs.declared.Refusal.{Refusal}
use Rattle.refusals.specs.declared.Refusal.TheVariants.{OutOfMemory}

-- what a check answers that has nothing to tell but that all is in order
abbrev pub Verdict : Type 0
Verdict = Result (Unit {0}) Refusal

abbrev pub passed : Verdict
passed = Ok tt

-- refuses unless the test holds; the rest is looked at after it
abbrev pub unless : {X : Type 0} → Bool → Refusal → Result X Refusal → Result X Refusal
unless ok refusal rest = cond ok rest (Err refusal)

-- goes on with what the first check tells
abbrev pub bind : {X Y : Type 0} → Result X Refusal → (X → Result Y Refusal) → Result Y Refusal
bind (Ok x) rest = rest x
bind (Err refusal) rest = Err refusal

-- the checks of t, t + 1 and so on, count of them
abbrev pub each_from : (ℕ → Verdict) → ℕ → ℕ → Verdict
each_from check t zero = passed
each_from check t (suc count) = bind (check t) (λ _. each_from check (t + 1) count)

-- What a call answers whose checks come to a verdict: the refusal; or what it read, which is P, unless memory is wanting.
abbrev pub Answers : {X : Type 0} → Verdict → (X → Type 0) → Result X Refusal → Type 0
Answers (Ok x) P r = MatchResult r P (λ refusal. refusal ≡ OutOfMemory)
Answers (Err refusal) P r = r ≡ Err refusal

-- What a check answers that hands on what it looked at: the refusal; or, where all is in order, something of which P holds.
abbrev pub Passes : {X Y : Type 0} → Result Y Refusal → (X → Type 0) → Result X Refusal → Type 0
Passes (Ok y) P r = MatchResult r P (λ _. ⊥)
Passes (Err refusal) P r = r ≡ Err refusal
