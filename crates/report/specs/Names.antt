-- The names of extracted files.
use Rattle.std.specs.Prelude.{ℕ, ◌-◌, List, ◌++◌, length, replicate, Some, None, codes, decimal, Option}
use Rattle.service.specs.Words.{word_of_kind}
use Rattle.service.specs.declared.header.SyncHeader.{SyncHeader}
use Rattle.report.specs.declared.entry.Verdict.{Verdict}
use Rattle.report.specs.declared.entry.Verdict.TheVariants.{Sound, Damaged, Foreign}
use Rattle.report.specs.declared.entry.Packet.{Packet}
use Rattle.report.specs.Words.{word_of_verdict}

-- the zeros that make a number six digits long
abbrev pub zeros : ℕ → List ℕ
zeros n = replicate (6 - length (decimal n)) 48

abbrev pub order_name : ℕ → List ℕ
order_name n = zeros n ++ decimal n

abbrev pub kind_mark : Option SyncHeader → List ℕ
kind_mark None = codes ""
kind_mark (Some header) = codes "-" ++ word_of_kind header.kind

-- behind the verdict: the number of the question that refuses a foreign packet, else the kind
abbrev pub mark_by : Verdict → Option SyncHeader → List ℕ
mark_by Sound header = kind_mark header
mark_by Damaged header = kind_mark header
mark_by (Foreign number) header = codes "-" ++ decimal number

abbrev pub mark_name : Packet → List ℕ
mark_name packet = mark_by packet.verdict packet.header

-- as in: 000123-sound-video.bin
abbrev pub file_name : ℕ → Packet → List ℕ
file_name order packet = order_name order ++ (codes "-" ++ (word_of_verdict packet.verdict ++ (mark_name packet ++ codes ".bin")))
