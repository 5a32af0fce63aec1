-- The number, the layer and the place of every refusal. Assumes nothing.
use Rattle.std.specs.Prelude.{ℕ, List, ◌++◌, codes, decimal}
use Rattle.std.proofs.Math.Utf8.{encode}
use Rattle.refusals.specs.declared.Layer.{Layer}
use Rattle.refusals.specs.declared.Layer.TheVariants.{NetworkSheet, OrderSheet, Plan, Memory}
use Rattle.refusals.specs.declared.Refusal.{Refusal}
use Rattle.refusals.specs.declared.Refusal.TheVariants.{OutOfMemory, NetworkCut, ColumnCount, EntryCount, NetworkLength, EntryOutside, EntryNotAfter, OrderLength, OrderSize, OrderNumber, RecordNotBlank, CrewSize, ThresholdSize, FillLimit, DiagonalNotFilled}

abbrev pub number_of : Refusal → ℕ
number_of OutOfMemory = 0
number_of (NetworkCut length) = 1
number_of (ColumnCount n) = 2
number_of (EntryCount e) = 2
number_of (NetworkLength length) = 1
number_of (EntryOutside entry) = 3
number_of (EntryNotAfter entry) = 4
number_of (OrderLength length) = 1
number_of (OrderSize n) = 2
number_of (OrderNumber index) = 5
number_of RecordNotBlank = 9
number_of (CrewSize crew) = 6
number_of (ThresholdSize threshold) = 6
number_of (FillLimit column) = 7
number_of (DiagonalNotFilled column) = 8

abbrev pub layer_of : Refusal → Layer
layer_of OutOfMemory = Memory
layer_of (NetworkCut length) = NetworkSheet
layer_of (ColumnCount n) = NetworkSheet
layer_of (EntryCount e) = NetworkSheet
layer_of (NetworkLength length) = NetworkSheet
layer_of (EntryOutside entry) = NetworkSheet
layer_of (EntryNotAfter entry) = NetworkSheet
layer_of (OrderLength length) = OrderSheet
layer_of (OrderSize n) = OrderSheet
layer_of (OrderNumber index) = OrderSheet
layer_of RecordNotBlank = Plan
layer_of (CrewSize crew) = Plan
layer_of (ThresholdSize threshold) = Plan
layer_of (FillLimit column) = Plan
layer_of (DiagonalNotFilled column) = Plan

abbrev pub letter_of : Layer → ℕ
letter_of NetworkSheet = 78
letter_of OrderSheet = 79
letter_of Plan = 80
letter_of Memory = 77

abbrev pub place_of : Refusal → ℕ
place_of OutOfMemory = 0
place_of (NetworkCut length) = length
place_of (ColumnCount n) = n
place_of (EntryCount e) = e
place_of (NetworkLength length) = length
place_of (EntryOutside entry) = entry
place_of (EntryNotAfter entry) = entry
place_of (OrderLength length) = length
place_of (OrderSize n) = n
place_of (OrderNumber index) = index
place_of RecordNotBlank = 0
place_of (CrewSize crew) = 0
place_of (ThresholdSize threshold) = 1
place_of (FillLimit column) = column
place_of (DiagonalNotFilled column) = column

-- what it means, for a person
abbrev pub meaning_of : Refusal → List ℕ
meaning_of OutOfMemory = codes "there is not enough memory"
meaning_of (NetworkCut length) = codes "the network sheet has " ++ (decimal length ++ codes " bytes, too few for n and e")
meaning_of (ColumnCount n) = codes "n is " ++ (decimal n ++ codes ", but a network has 1 to 512 columns")
meaning_of (EntryCount e) = codes "e is " ++ (decimal e ++ codes ", but a network has 1 to 8192 entries")
meaning_of (NetworkLength length) = codes "the network sheet has " ++ (decimal length ++ codes " bytes, not 4 and 4 for each entry")
meaning_of (EntryOutside entry) = codes "entry " ++ (decimal entry ++ codes " has a row or a column that is n or more")
meaning_of (EntryNotAfter entry) = codes "entry " ++ (decimal entry ++ codes " does not come after the one before, by column, then by row")
meaning_of (OrderLength length) = codes "the order sheet has " ++ (decimal length ++ codes " bytes, not 2 and 4 for each column")
meaning_of (OrderSize n) = codes "the order sheet's n is " ++ (decimal n ++ codes ", not the network's")
meaning_of (OrderNumber index) = codes "order entry " ++ (decimal index ++ codes " is out of range or repeated")
meaning_of RecordNotBlank = codes "the record is not blank"
meaning_of (CrewSize crew) = codes "the crew is " ++ (decimal crew ++ codes ", but has 1 to 16 workers")
meaning_of (ThresholdSize threshold) = codes "the threshold is " ++ (decimal threshold ++ codes ", but is 1 to 512")
meaning_of (FillLimit column) = codes "column " ++ (decimal column ++ codes " takes the filled pattern past 8192 entries")
meaning_of (DiagonalNotFilled column) = codes "the diagonal place of column " ++ (decimal column ++ codes " is neither an entry nor fill")

-- the line that is shown
abbrev pub line_of : Refusal → List ℕ
line_of refusal =
    codes "refused: " ++ (decimal (number_of refusal) ++ (codes " " ++ (encode (letter_of (layer_of refusal)) ++ (codes " " ++ (decimal (place_of refusal) ++ (codes ": " ++ meaning_of refusal))))))
