-- The questions that a channel is asked, and the numbers of its refusals.
use Rattle.std.specs.Prelude.{ℕ, Bool, true, false, cond, List, [], ◌∷◌, Some, None, Ok, Err, Option, Result, nat_lt}
use Rattle.framing.specs.declared.slot.Slot.{Slot}
use Rattle.channel.specs.declared.channel.Full.{Full}

-- the number of the question that refuses a put: is the room above 0?
abbrev pub number : Full → ℕ
number full = 9

-- the number by which a put was refused
abbrev pub refusal : Result (Unit {0}) Full → Option ℕ
refusal (Ok _) = None
refusal (Err full) = Some (number full)

-- a put is refused by 9 where the room is 0, and nowhere else
abbrev pub room_question : ℕ → Option ℕ
room_question room = cond (nat_lt 0 room) None (Some 9)

-- whether a slot waits
abbrev pub waiting : List Slot → Bool
waiting [] = false
waiting (s ∷ rest) = true
