-- What the steps answer, by what the calls of the flow do.
use Rattle.std.specs.Prelude.{◌≡◌, ℕ, List, [], ◌∷◌, ◌++◌, Some, None, Ok, Err, vec_items, Option, Result}
use Rattle.std.specs.List.{AllByRecursion}
use Rattle.flow.specs.declared.faults.OpenFault.{OpenFault}
use Rattle.flow.specs.declared.token.SuperframeToken.{SuperframeToken}
use Rattle.receiver.specs.declared.answer.Reading.{Reading}
use Rattle.receiver.specs.declared.answer.Reading.TheVariants.{Nothing}
use Rattle.receiver.specs.declared.answer.BufferTooShort.{BufferTooShort}
use Rattle.receiver.specs.Readings.{said_length}
use Rattle.script.specs.declared.reply.Answered.{Answered}
use Rattle.script.specs.declared.reply.Reply.{Reply}
use Rattle.script.specs.declared.reply.Reply.TheVariants.{Opening, Offer, Closed, NoToken, Read, Drained, Room, Waits}

abbrev pub opening_answer : Result SuperframeToken OpenFault → Reply
opening_answer (Ok token) = Opening (Ok tt)
opening_answer (Err e) = Opening (Err e)

-- an accepted opening gives the token; a refused one leaves the hand as it was
abbrev pub hand_after : Result SuperframeToken OpenFault → Option SuperframeToken → Option SuperframeToken
hand_after (Ok token) hand = Some token
hand_after (Err e) hand = hand

-- How many bytes at the front of the buffer are a packet that was handed out.

abbrev pub or_none : Option ℕ → ℕ
or_none None = 0
or_none (Some n) = n

abbrev pub handed_out : Result Reading BufferTooShort → ℕ
handed_out (Ok a) = or_none (said_length a)
handed_out (Err e) = 0

-- A drain is whole when it went on through the first reading that answered nothing.

abbrev pub IsNothing : Answered → Type 0
IsNothing a = a.answer ≡ Ok Nothing

abbrev pub NotNothing : Answered → Type 0
NotNothing a = IsNothing a → ⊥

pub record ThroughNothing (answers : List Answered) : Type 0 where
  pub earlier : List Answered
  pub last : Answered
  pub whole : answers ≡ earlier ++ last ∷ []
  pub not_before : AllByRecursion NotNothing earlier
  pub then : IsNothing last

abbrev pub Whole : Reply → Type 0
Whole (Opening answer) = Unit {0}
Whole (Offer answer) = Unit {0}
Whole Closed = Unit {0}
Whole NoToken = Unit {0}
Whole (Read a) = Unit {0}
Whole (Drained answers) = ThroughNothing (vec_items answers)
Whole (Room n) = Unit {0}
Whole (Waits b) = Unit {0}
