-- The lines that answer the steps of a flow.
use Rattle.std.specs.Prelude.{ℕ, Bool, List, [], ◌++◌, Ok, Err, vec_items, codes, decimal, Result}
use Rattle.std.specs.List.{flat_map}
use Rattle.flow.specs.declared.faults.OfferFault.{OfferFault}
use Rattle.flow.specs.declared.faults.OfferFault.TheVariants.{NotOpenHere, Length, NotServed, NoSpace}
use Rattle.flow.specs.Numbers.{open_number}
use Rattle.framing.specs.Judging.{fault_number}
use Rattle.receiver.specs.declared.answer.BufferTooShort.{BufferTooShort}
use Rattle.receiver.specs.declared.answer.Reading.{Reading}
use Rattle.receiver.specs.declared.answer.Reading.TheVariants.{Sound, Damaged, Foreign, Short, Lost, Torn, Mark, Nothing}
use Rattle.script.specs.declared.reply.Answered.{Answered}
use Rattle.script.specs.declared.reply.Reply.{Reply}
use Rattle.script.specs.declared.reply.Reply.TheVariants.{Opening, Offer, Closed, NoToken, Read, Drained, Room, Waits}
use Rattle.wording.specs.Answers.{line_end, refused_line}
use Rattle.spelling.specs.Answer.{yes_or_no}
use Rattle.spelling.specs.Hex.{in_word}

abbrev pub space : List ℕ
space = codes " "

-- an answer of a reading, with the packet that was handed out
abbrev pub reading_line : Reading → List ℕ → List ℕ
reading_line (Sound len) packet = codes "sound " ++ (decimal len ++ (space ++ (in_word packet ++ line_end)))
reading_line (Damaged len) packet = codes "damaged " ++ (decimal len ++ (space ++ (in_word packet ++ line_end)))
reading_line (Foreign number len) packet =
    codes "foreign " ++ (decimal number ++ (space ++ (decimal len ++ (space ++ (in_word packet ++ line_end)))))
reading_line Short packet = codes "short\n"
reading_line (Lost frame dropped) packet = codes "lost " ++ (decimal frame ++ (space ++ (decimal dropped ++ line_end)))
reading_line (Torn frame dropped torn) packet =
    codes "torn "
    ++ (decimal frame
    ++ (space ++ (decimal dropped ++ (space ++ (decimal (fault_number torn.fault) ++ (space ++ (decimal torn.at ++ line_end)))))))
reading_line (Mark dropped) packet = codes "mark " ++ (decimal dropped ++ line_end)
reading_line Nothing packet = codes "nothing\n"

-- the same, of a reading that may have been refused
abbrev pub answered_line : Result Reading BufferTooShort → List ℕ → List ℕ
answered_line (Ok reading) packet = reading_line reading packet
answered_line (Err fault) packet = refused_line 8

-- why an offer was refused: behind a 6 stands the service's own number
abbrev pub offer_fault_line : OfferFault → List ℕ
offer_fault_line NotOpenHere = refused_line 4
offer_fault_line Length = refused_line 5
offer_fault_line (NotServed inner) = codes "refused " ++ (decimal 6 ++ (space ++ (decimal inner.number ++ line_end)))
offer_fault_line NoSpace = refused_line 7

abbrev pub waits_line : Bool → List ℕ
waits_line waits = codes "waits " ++ (yes_or_no waits ++ line_end)

-- the line of what one reading answered
abbrev pub line_of : Answered → List ℕ
line_of a = answered_line a.answer (vec_items a.packet)

-- The lines that tell what a step answered. Of a drain they are those of its readings, one after another.
abbrev pub reply_lines : Reply → List ℕ
reply_lines (Opening (Ok x)) = codes "opened\n"
reply_lines (Opening (Err fault)) = refused_line (open_number fault)
reply_lines (Offer (Ok x)) = codes "accepted\n"
reply_lines (Offer (Err fault)) = offer_fault_line fault
reply_lines Closed = codes "closed\n"
reply_lines NoToken = []
reply_lines (Read answered) = line_of answered
reply_lines (Drained all) = flat_map line_of (vec_items all)
reply_lines (Room room) = codes "room " ++ (decimal room ++ line_end)
reply_lines (Waits waits) = waits_line waits
