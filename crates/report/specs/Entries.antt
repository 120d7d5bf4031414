-- What a reading shows.
use Rattle.std.specs.Prelude.{ℕ, cond, List, take, Some, None, Ok, Err, Option, Result, nat_lt}
use Rattle.service.specs.declared.header.SyncHeader.{SyncHeader}
use Rattle.service.specs.Reading.{reading}
use Rattle.receiver.specs.declared.answer.Reading.{Reading}
use Rattle.receiver.specs.declared.answer.Reading.TheVariants.{Sound, Damaged, Foreign, Short, Lost, Torn, Mark, Nothing}
use Rattle.report.specs.declared.entry.Entry.{Entry}
use Rattle.report.specs.declared.entry.Entry.TheVariants.{Packet as handedOut, Short as shortPacket, Lost as lostFrame, Torn as tornFrame, Unfinished}
use Rattle.report.specs.declared.entry.Verdict.{Verdict}
use Rattle.report.specs.declared.entry.Verdict.TheVariants.{Sound as sound, Damaged as damaged, Foreign as foreign}
use Rattle.service.specs.declared.choice.ServiceChoice.{ServiceChoice}
use Rattle.service.specs.declared.choice.ServiceChoice.TheVariants.{Plain, Sync}

-- the header of a packet that can be read
abbrev pub header_read : Result (SyncHeader × List ℕ) ℕ → Option SyncHeader
header_read (Ok packet) = Some packet.0
header_read (Err number) = None

abbrev pub header_in : ServiceChoice → List ℕ → Option SyncHeader
header_in Plain packet = None
header_in Sync packet = header_read (reading packet)

-- a packet of this length at the front of the buffer
abbrev pub packet_shown : Verdict → ℕ → List ℕ → ServiceChoice → Entry
packet_shown verdict len buffer service =
    handedOut (record { len = len; verdict = verdict; header = header_in service (take len buffer) })

-- A reading shows what it answers; a mark that drops nothing shows nothing, and neither does the end.
abbrev pub entry_of : Reading → List ℕ → ServiceChoice → Option Entry
entry_of (Sound len) buffer service = Some (packet_shown sound len buffer service)
entry_of (Damaged len) buffer service = Some (packet_shown damaged len buffer service)
entry_of (Foreign number len) buffer service = Some (packet_shown (foreign number) len buffer service)
entry_of Short buffer service = Some shortPacket
entry_of (Lost frame dropped) buffer service = Some (lostFrame frame dropped)
entry_of (Torn frame dropped torn) buffer service = Some (tornFrame frame dropped torn)
entry_of (Mark dropped) buffer service = cond (nat_lt 0 dropped) (Some (Unfinished dropped)) None
entry_of Nothing buffer service = None
