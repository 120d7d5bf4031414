-- Judging a frame: nine questions about each header, in order. The first one answered no tears the frame.
use Rattle.std.specs.Prelude.{ℕ, ◌+◌, Bool, true, false, cond, not, ◌&&◌, ◌||◌, List, [], ◌∷◌, Some, None, Ok, Err, Option, Result, ◌==◌, nat_le, nat_lt}
use Rattle.framing.specs.Header.{count_of, last_of, Header, headers}
use Rattle.framing.specs.declared.fault.FrameFault.{FrameFault}
use Rattle.framing.specs.declared.fault.FrameFault.TheVariants.{CountOutOfRange, PaddingMarkedLast, PaddingInLastByte, PaddingNotZero, PaddingInsidePacket, MisplacedNotional, BodyPastEnd, BodyEndsEarly, PacketTooLong}
use Rattle.framing.specs.declared.fault.Torn.{Torn}

-- A question by its number, and whether it is answered yes.
pub record Question : Type 0 where
  pub number : ℕ
  pub yes : Bool

abbrev pub ask : ℕ → Bool → Question
ask n b = record { number = n; yes = b }

-- The number of the first question answered no.
abbrev pub first_no : List Question → Option ℕ
first_no [] = None
first_no (q ∷ qs) = cond q.yes (first_no qs) (Some q.number)

abbrev pub all_zero : List ℕ → Bool
all_zero [] = true
all_zero (b ∷ bs) = b == 0 && all_zero bs

-- Whether a frame that is judged finds no packet open (`gathered` is the number of bytes that the reader has of the one that is).
abbrev pub none_open : Option ℕ → Bool
none_open None = true
none_open (Some n) = false

-- Whether the open packet, with so many bytes more, stays within 2,044 bytes and the checksum's width.
abbrev pub stays_within : (width : ℕ) → Option ℕ → ℕ → Bool
stays_within width None more = true
stays_within width (Some n) more = nat_le (n + more) (2044 + width)

-- A count of 127 says that the rest of the frame is padding.
abbrev pub padding_questions : Option ℕ → Header → List Question
padding_questions gathered h =
    ask 12 (not (last_of h.byte))
    ∷ ask 13 (nat_lt h.place 122)
    ∷ ask 14 (all_zero h.following)
    ∷ ask 15 (not (h.place == 1) || none_open gathered)
    ∷ []

-- A count of 0 is a notional packet.
abbrev pub notional_questions : Header → List Question
notional_questions h = ask 16 (last_of h.byte && h.place == 122) ∷ []

abbrev pub body_questions : (width : ℕ) → Option ℕ → Header → List Question
body_questions width gathered h =
    ask 17 (nat_le (h.place + count_of h.byte) 122)
    ∷ ask 18 (last_of h.byte || h.place + count_of h.byte == 122)
    ∷ ask 19 (not (h.place == 1) || stays_within width gathered (count_of h.byte))
    ∷ []

abbrev pub questions : (width : ℕ) → Option ℕ → Header → List Question
questions width gathered h =
    ask 11 (nat_le (count_of h.byte) 121 || count_of h.byte == 127)
    ∷ cond (count_of h.byte == 127) (padding_questions gathered h)
    (cond (count_of h.byte == 0) (notional_questions h) (body_questions width gathered h))

-- What comes of judging: lawful, or torn, with the question's number and the place of the header.
pub data Verdict : Type 0 where
  lawful : Verdict
  torn : (question place : ℕ) → Verdict

abbrev pub is_lawful : Verdict → Bool
is_lawful lawful = true
is_lawful (torn question place) = false

-- A judgment: the headers judged, a refused one included, and the verdict.
pub record Judgment : Type 0 where
  pub judged : List Header
  pub verdict : Verdict

-- The first header has been asked about, and the rest is judged likewise: a no about the first ends the judgment.
abbrev pub after_first : Option ℕ → Header → Judgment → Judgment
after_first None h rest = record { judged = h ∷ rest.judged; verdict = rest.verdict }
after_first (Some question) h rest = record { judged = h ∷ []; verdict = torn question h.place }

abbrev pub judgment_of : (width : ℕ) → Option ℕ → List Header → Judgment
judgment_of width gathered [] = record { judged = []; verdict = lawful }
judgment_of width gathered (h ∷ hs) = after_first (first_no (questions width gathered h)) h (judgment_of width gathered hs)

-- A frame, judged by its first fragment and then, likewise, by its rest.
abbrev pub judgment : (width : ℕ) → Option ℕ → List ℕ → Judgment
judgment width gathered frame = judgment_of width gathered (headers frame)

-- The number of each fault.
abbrev pub fault_number : FrameFault → ℕ
fault_number CountOutOfRange = 11
fault_number PaddingMarkedLast = 12
fault_number PaddingInLastByte = 13
fault_number PaddingNotZero = 14
fault_number PaddingInsidePacket = 15
fault_number MisplacedNotional = 16
fault_number BodyPastEnd = 17
fault_number BodyEndsEarly = 18
fault_number PacketTooLong = 19

abbrev pub fault_numbers : Option FrameFault → Option ℕ
fault_numbers None = None
fault_numbers (Some fault) = Some (fault_number fault)

-- What an answer of the code says.
abbrev pub verdict_of : Result (Unit {0}) Torn → Verdict
verdict_of (Ok _) = lawful
verdict_of (Err t) = torn (fault_number t.fault) t.at
