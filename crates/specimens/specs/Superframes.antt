-- A new flow writes superframe after superframe: what its calls are answered, and what it puts. Its service admits every packet.
use Rattle.std.specs.Prelude.{◌≡◌, ℕ, ◌+◌, ◌≤◌, Bool, true, false, List, [], ◌∷◌, ◌++◌, map, Some, None, Option}
use Rattle.framing.specs.Judging.{first_no}
use Rattle.channel.specs.Sending.{Put}
use Rattle.checksum.specs.Crc16.{crc16}
use Rattle.flow.specs.Asking.{opening_questions, offer_questions, closing_questions}
use Rattle.flow.specs.Runs.{Call, opens, offers, closes, run}
use Rattle.flow.specs.Writing.{State, Step, idle}

-- How a flow is set up: whether packets may cross superframes, and its checksum, by its width and its value of each packet.
pub record Mode : Type 0 where
  pub fasb : Bool
  pub width : ℕ
  pub value : List ℕ → List ℕ

-- no checksum, and packets may not cross superframes
abbrev pub bare : Mode
bare = record { fasb = false; width = 0; value = λ _. [] }

-- the same, but that they may
abbrev pub crossing : Mode
crossing = record { fasb = true; width = 0; value = λ _. [] }

abbrev pub with_crc16 : Mode
with_crc16 = record { fasb = false; width = 2; value = crc16 }

-- A superframe: how many frames it has, and the packets that are offered in it.
pub record Superframe : Type 0 where
  pub frames : ℕ
  pub packets : List (List ℕ)

abbrev pub superframe : ℕ → List (List ℕ) → Superframe
superframe n packets = record { frames = n; packets = packets }

-- 1. What is put.

-- each packet is offered with its checksum behind it
abbrev pub offered : Mode → List (List ℕ) → List Call
offered m packets = map (λ p. offers (p ++ m.value p)) packets

-- a superframe is opened, its packets are offered, and it is closed
abbrev pub calls : Mode → List Superframe → List Call
calls m [] = []
calls m (f ∷ later) = opens f.frames ∷ (offered m f.packets ++ (closes ∷ calls m later))

-- all that a new flow puts
abbrev pub puts : Mode → List Superframe → List Put
puts m superframes = (run idle (calls m superframes)).puts

-- 2. What is answered.

-- The number that refuses an offer, by its own token, to a flow of this id that stands so.
abbrev pub refusal : Mode → (id : ℕ) → State → (packet : List ℕ) → Option ℕ
refusal m id s packet = first_no (offer_questions id id m.fasb m.width None packet s)

-- each packet is accepted, and then the closing
abbrev pub OffersAccepted : Mode → (id : ℕ) → State → List (List ℕ) → Type 0
OffersAccepted m id s [] = first_no (closing_questions id id s) ≡ None
OffersAccepted m id s (p ∷ packets) =
    (refusal m id s p ≡ None) × OffersAccepted m id (run s (offered m (p ∷ []))).state packets

-- each superframe is: its opening, wherever the channel has the room, and the rest of it
abbrev pub AllAccepted : Mode → (id : ℕ) → State → List Superframe → Type 0
AllAccepted m id s [] = Unit {0}
AllAccepted m id s (f ∷ later) =
    ((room : ℕ) → f.frames + 1 ≤ room → first_no (opening_questions f.frames s room) ≡ None)
    × OffersAccepted m id (run s (opens f.frames ∷ [])).state f.packets
    × AllAccepted m id (run s (calls m (f ∷ []))).state later

-- a new flow, of whatever id, refuses no call
abbrev pub Accepts : Mode → List Superframe → Type 0
Accepts m superframes = (id : ℕ) → AllAccepted m id idle superframes

-- 3. Both.

-- No call is refused, and just this is put.
pub record Writes (m : Mode) (superframes : List Superframe) (put : List Put) : Type 0 where
  pub accepted : Accepts m superframes
  pub put_is : puts m superframes ≡ put

-- what a new flow comes to by a superframe that is not yet closed
abbrev pub before_closing : Mode → Superframe → Step
before_closing m f = run idle (opens f.frames ∷ offered m f.packets)

-- No call of a superframe is refused; but this packet, offered before the closing, is, by this number, when just this is put.
pub record Refuses (m : Mode) (f : Superframe) (put : List Put) (packet : List ℕ) (number : ℕ) : Type 0 where
  pub accepted : Accepts m (f ∷ [])
  pub put_is : (before_closing m f).puts ≡ put
  pub refused : (id : ℕ) → refusal m id (before_closing m f).state packet ≡ Some number
