-- A torn frame in words.
use Rattle.std.specs.Prelude.{ℕ, List, ◌++◌, codes, decimal}
use Rattle.framing.specs.declared.fault.FrameFault.{FrameFault}
use Rattle.framing.specs.declared.fault.FrameFault.TheVariants.{CountOutOfRange, PaddingMarkedLast, PaddingInLastByte, PaddingNotZero, PaddingInsidePacket, MisplacedNotional, BodyPastEnd, BodyEndsEarly, PacketTooLong}
use Rattle.framing.specs.declared.fault.Torn.{Torn}
use Rattle.framing.specs.Judging.{fault_number}

-- what is wrong
abbrev pub fault_words : FrameFault → List ℕ
fault_words CountOutOfRange = codes "a count of 122 to 126, which has no meaning"
fault_words PaddingMarkedLast = codes "a padding header with the last mark set"
fault_words PaddingInLastByte = codes "a padding header in byte 122, with no padding behind it"
fault_words PaddingNotZero = codes "padding that is not all zeros"
fault_words PaddingInsidePacket = codes "padding where an open packet should go on"
fault_words MisplacedNotional = codes "an empty body that is not 0x80 in byte 122"
fault_words BodyPastEnd = codes "a body that runs past the end of the frame"
fault_words BodyEndsEarly = codes "a body without the last mark that ends before the frame does"
fault_words PacketTooLong = codes "a body that makes the open packet longer than any packet"

-- as in: question 11 at byte 1: a count of 122 to 126, which has no meaning
abbrev pub torn_words : Torn → List ℕ
torn_words t =
    codes "question "
    ++ (decimal (fault_number t.fault) ++ (codes " at byte " ++ (decimal t.at ++ (codes ": " ++ fault_words t.fault))))
