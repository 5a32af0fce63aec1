-- What is looked at in a network sheet, in this order, and what a sheet in order tells. Assumes nothing.
use Rattle.std.specs.Prelude.{ℕ, zero, suc, ◌+◌, ◌*◌, Bool, true, ◌&&◌, List, length, Some, None, Ok, vec_items, Option, Result, ◌==◌, nat_le, nat_lt}
use Rattle.network.specs.declared.entries.Entry.{Entry}
use Rattle.network.specs.declared.networks.Network.{Network}
use Rattle.refusals.specs.declared.Refusal.{Refusal}
use Rattle.refusals.specs.declared.Refusal.TheVariants.{NetworkCut, ColumnCount, EntryCount, NetworkLength, EntryOutside, EntryNotAfter}
use Rattle.refusals.specs.Checks.{Verdict, passed, unless, bind, each_from}
use Rattle.network.specs.Entries.{after, entry_at, entries_of}
use Rattle.network.specs.Words.{word}

abbrev pub within : ℕ → ℕ → ℕ → Bool
within low high x = nat_le low x && nat_le x high

-- n and e, where the sheet's length goes with them
abbrev pub head_checked : List ℕ → Result (ℕ × ℕ) Refusal
head_checked bytes =
    unless (nat_le 4 (length bytes)) (NetworkCut (length bytes))
    (unless (within 1 512 (word bytes 0)) (ColumnCount (word bytes 0))
    (unless (within 1 8192 (word bytes 2)) (EntryCount (word bytes 2))
    (unless (length bytes == 4 + 4 * word bytes 2) (NetworkLength (length bytes))
    (Ok (word bytes 0, word bytes 2)))))

-- the entry before entry t
abbrev pub earlier : (ℕ → Entry) → ℕ → Option Entry
earlier at zero = None
earlier at (suc t) = Some (at t)

abbrev pub follows : Option Entry → Entry → Bool
follows None x = true
follows (Some y) x = after x y

-- entry t: inside, and after the one before
abbrev pub entry_checked : ℕ → ℕ → Option Entry → Entry → Verdict
entry_checked n t before x =
    unless (nat_lt x.row n && nat_lt x.column n) (EntryOutside t)
    (unless (follows before x) (EntryNotAfter t)
    passed)

-- entry t of the sheet
abbrev pub entry_verdict : List ℕ → ℕ → ℕ → ℕ → Verdict
entry_verdict bytes n e t = entry_checked n t (earlier (entry_at bytes e) t) (entry_at bytes e t)

abbrev pub entries_checked : List ℕ → ℕ → ℕ → Verdict
entries_checked bytes n e = each_from (entry_verdict bytes n e) 0 e

abbrev pub network_checked : List ℕ → Verdict
network_checked bytes = bind (head_checked bytes) (λ head. entries_checked bytes head.0 head.1)

-- a network as a sheet tells it
pub record Pattern : Type 0 where
  pub size : ℕ
  pub entries : List Entry

abbrev pub network_of : List ℕ → Pattern
network_of bytes = record { size = word bytes 0; entries = entries_of bytes (word bytes 2) }

abbrev pub pattern : Network → Pattern
pattern m = record { size = m.n; entries = vec_items m.entries }
