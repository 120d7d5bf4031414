-- What the entries of a reel come to.
use Rattle.std.specs.Prelude.{ℕ, ◌+◌, ◌-◌, ◌^◌, min, Some, None, Option}
use Rattle.service.specs.declared.header.Kind.{Kind}
use Rattle.service.specs.declared.header.Kind.TheVariants.{Video, Audio, TimedData, Adaptation}
use Rattle.service.specs.declared.header.SyncHeader.{SyncHeader}
use Rattle.report.specs.declared.entry.Entry.{Entry}
use Rattle.report.specs.declared.entry.Entry.TheVariants.{Packet as handedOut, Short, Lost, Torn, Unfinished}
use Rattle.report.specs.declared.entry.Verdict.{Verdict}
use Rattle.report.specs.declared.entry.Verdict.TheVariants.{Sound, Damaged, Foreign}
use Rattle.report.specs.declared.totals.Kinds.{Kinds}
use Rattle.report.specs.declared.totals.Totals.{Totals}

-- a count that grows, and stays at the largest number
abbrev pub plus : ℕ → ℕ → ℕ
plus a b = min (a + b) (2 ^ 64 - 1)

abbrev pub no_kinds : Kinds
no_kinds = record { video = 0; audio = 0; captions = 0; adaptation = 0 }

abbrev pub with_kind : Kinds → Kind → Kinds
with_kind k Video = record { video = plus k.video 1; audio = k.audio; captions = k.captions; adaptation = k.adaptation }
with_kind k Audio = record { video = k.video; audio = plus k.audio 1; captions = k.captions; adaptation = k.adaptation }
with_kind k TimedData = record { video = k.video; audio = k.audio; captions = plus k.captions 1; adaptation = k.adaptation }
with_kind k Adaptation = record { video = k.video; audio = k.audio; captions = k.captions; adaptation = plus k.adaptation 1 }

-- with the kind that a header names, if there is one
abbrev pub with_named : Kinds → Option SyncHeader → Kinds
with_named k None = k
with_named k (Some header) = with_kind k header.kind

abbrev pub nothing_yet : Totals
nothing_yet =
    record { lost = 0; torn = 0; sound = 0; damaged = 0; foreign = 0; short = 0; unfinished = 0; dropped = 0; kinds = no_kinds; damaged_kinds = no_kinds }

abbrev pub counting_packet : Totals → Verdict → Option SyncHeader → Totals
counting_packet t Sound header =
    record { lost = t.lost; torn = t.torn; sound = plus t.sound 1; damaged = t.damaged; foreign = t.foreign; short = t.short; unfinished = t.unfinished; dropped = t.dropped; kinds = with_named t.kinds header; damaged_kinds = t.damaged_kinds }
counting_packet t Damaged header =
    record { lost = t.lost; torn = t.torn; sound = t.sound; damaged = plus t.damaged 1; foreign = t.foreign; short = t.short; unfinished = t.unfinished; dropped = t.dropped; kinds = t.kinds; damaged_kinds = with_named t.damaged_kinds header }
counting_packet t (Foreign number) header =
    record { lost = t.lost; torn = t.torn; sound = t.sound; damaged = t.damaged; foreign = plus t.foreign 1; short = t.short; unfinished = t.unfinished; dropped = t.dropped; kinds = t.kinds; damaged_kinds = t.damaged_kinds }

-- so many bytes more that were dropped
abbrev pub counting_dropped : Totals → ℕ → Totals
counting_dropped t dropped =
    record { lost = t.lost; torn = t.torn; sound = t.sound; damaged = t.damaged; foreign = t.foreign; short = t.short; unfinished = t.unfinished; dropped = plus t.dropped dropped; kinds = t.kinds; damaged_kinds = t.damaged_kinds }

-- one torn frame more, with so many bytes that were dropped
abbrev pub with_torn : Totals → ℕ → Totals
with_torn t dropped =
    record { lost = t.lost; torn = plus t.torn 1; sound = t.sound; damaged = t.damaged; foreign = t.foreign; short = t.short; unfinished = t.unfinished; dropped = plus t.dropped dropped; kinds = t.kinds; damaged_kinds = t.damaged_kinds }

-- one entry more
abbrev pub tallied : Totals → Entry → Totals
tallied t (handedOut packet) = counting_packet t packet.verdict packet.header
tallied t Short =
    record { lost = t.lost; torn = t.torn; sound = t.sound; damaged = t.damaged; foreign = t.foreign; short = plus t.short 1; unfinished = t.unfinished; dropped = t.dropped; kinds = t.kinds; damaged_kinds = t.damaged_kinds }
tallied t (Lost frame dropped) =
    record { lost = plus t.lost 1; torn = t.torn; sound = t.sound; damaged = t.damaged; foreign = t.foreign; short = t.short; unfinished = t.unfinished; dropped = plus t.dropped dropped; kinds = t.kinds; damaged_kinds = t.damaged_kinds }
tallied t (Torn frame dropped torn) = with_torn t dropped
tallied t (Unfinished dropped) =
    record { lost = t.lost; torn = t.torn; sound = t.sound; damaged = t.damaged; foreign = t.foreign; short = t.short; unfinished = plus t.unfinished 1; dropped = plus t.dropped dropped; kinds = t.kinds; damaged_kinds = t.damaged_kinds }

abbrev pub all_packets : Totals → ℕ
all_packets t = plus (plus (plus t.sound t.damaged) t.foreign) t.short
