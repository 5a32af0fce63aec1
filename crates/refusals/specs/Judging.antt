-- Which of the refusals that there is cause for is given: the one whose check comes first. Assumes nothing.
use Rattle.std.specs.Prelude.{◌≡◌, ℕ, ◌+◌, ◌*◌, ◌^◌, ◌<◌, ◌⊎◌, Result, MatchResult}
use Rattle.refusals.specs.declared.Refusal.{Refusal}
use Rattle.refusals.specs.declared.Refusal.TheVariants.{OutOfMemory, NetworkCut, ColumnCount, EntryCount, NetworkLength, EntryOutside, EntryNotAfter, OrderLength, OrderSize, OrderNumber, RecordNotBlank, CrewSize, ThresholdSize, FillLimit, DiagonalNotFilled}

-- where a refusal's check stands in the order of checks: those of the network sheet come first, then those of the order sheet, then those of the filled pattern. The checks of the record and of the plan's limits are not made yet: their order before the sheets is still to be set.
abbrev pub turn : Refusal → ℕ
turn OutOfMemory = 0
turn RecordNotBlank = 0
turn (CrewSize crew) = 0
turn (ThresholdSize threshold) = 0
turn (NetworkCut length) = 0
turn (ColumnCount n) = 1
turn (EntryCount e) = 2
turn (NetworkLength length) = 3
turn (EntryOutside t) = 4 + 2 * t
turn (EntryNotAfter t) = 5 + 2 * t
turn (OrderLength length) = 2 ^ 20
turn (OrderSize n) = 2 ^ 20 + 1
turn (OrderNumber index) = 2 ^ 20 + 2 + index
turn (FillLimit column) = 2 ^ 21 + column
turn (DiagonalNotFilled column) = 2 ^ 22 + column

-- there is cause for it, and none for a refusal whose check stands before
pub record First (Wrong : Refusal → Type 0) (refusal : Refusal) : Type 0 where
  pub cause : Wrong refusal
  pub no_earlier : (other : Refusal) → turn other < turn refusal → Wrong other → ⊥

abbrev pub NothingWrong : (Refusal → Type 0) → Type 0
NothingWrong Wrong = (refusal : Refusal) → Wrong refusal → ⊥

-- A grant says that nothing is wrong, and a refusal names the first thing that is. Memory is asked for only where nothing is wrong.
abbrev pub Judges : {X : Type 0} → (Refusal → Type 0) → Result X Refusal → Type 0
Judges Wrong r = MatchResult r (λ _. NothingWrong Wrong) (λ refusal. First Wrong refusal ⊎ ((refusal ≡ OutOfMemory) × NothingWrong Wrong))
