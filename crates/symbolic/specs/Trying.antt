-- What a call answers that asks for memory before its checks are done. Assumes nothing.
use Rattle.std.specs.Prelude.{◌≡◌, ◌⊎◌, Ok, Err, Result, MatchResult}
use Rattle.refusals.specs.declared.Refusal.{Refusal}
use Rattle.refusals.specs.declared.Refusal.TheVariants.{OutOfMemory}
use Rattle.refusals.specs.Checks.{Verdict}

-- the refusal of its checks, or what was made, which is P; or want of memory
abbrev pub Tries : {X : Type 0} → Verdict → (X → Type 0) → Result X Refusal → Type 0
Tries (Ok x) P r = MatchResult r P (λ refusal. refusal ≡ OutOfMemory)
Tries (Err refusal) P r = (r ≡ Err refusal) ⊎ (r ≡ Err OutOfMemory)
