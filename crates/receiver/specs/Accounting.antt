-- Every slot that is taken is accounted for, and so is every byte of a body in a lawful frame.
use Rattle.std.specs.Prelude.{◌≡◌, ℕ, ◌+◌, Bool, List, [], ◌∷◌, length}
use Rattle.framing.specs.declared.slot.Slot.{Slot}
use Rattle.framing.specs.declared.slot.Slot.TheVariants.{Frame, Gap, Mark}
use Rattle.framing.specs.Fragments.{Fragment, body, notional, padding, fragments}
use Rattle.framing.specs.Judging.{Verdict, lawful, torn}
use Rattle.receiver.specs.Reading.{Standing, aligned, gathering, seeking, dropped, after_one, after_all, after_slot, verdict_on, Told, packet, torn_frame, Reader}
use Rattle.receiver.specs.Reading as tells

-- 1. Bytes.

abbrev pub body_size : Fragment → ℕ
body_size (body place b last) = length b
body_size (notional place) = 0
body_size (padding place) = 0

-- the bytes of all bodies among these fragments
abbrev pub bodies : List Fragment → ℕ
bodies [] = 0
bodies (f ∷ fs) = body_size f + bodies fs

-- A body is skipped where the reader is seeking.
abbrev pub skipped_one : Standing → Fragment → ℕ
skipped_one aligned f = 0
skipped_one (gathering a) f = 0
skipped_one seeking f = body_size f

abbrev pub skipped : Standing → List Fragment → ℕ
skipped r [] = 0
skipped r (f ∷ fs) = skipped_one r f + skipped (after_one r f) fs

-- in a lawful frame only, for a reader that stands so
abbrev pub if_lawful : Verdict → ℕ → ℕ
if_lawful lawful n = n
if_lawful (torn question place) n = 0

abbrev pub bodies_in_slot : (width : ℕ) → Standing → Slot → ℕ
bodies_in_slot width r (Frame f) = if_lawful (verdict_on width r f.bytes) (bodies (fragments f.bytes))
bodies_in_slot width r Gap = 0
bodies_in_slot width r Mark = 0

abbrev pub skipped_in_slot : (width : ℕ) → Standing → Slot → ℕ
skipped_in_slot width r (Frame f) = if_lawful (verdict_on width r f.bytes) (skipped r (fragments f.bytes))
skipped_in_slot width r Gap = 0
skipped_in_slot width r Mark = 0

-- A number that each slot gives, for the reader as it then stands, summed over the slots.
abbrev pub over_slots : (Standing → Slot → ℕ) → (fasb : Bool) (width : ℕ) → Standing → List Slot → ℕ
over_slots count fasb width r [] = 0
over_slots count fasb width r (s ∷ rest) = count r s + over_slots count fasb width (after_slot fasb width r s) rest

-- A number that each thing told gives, summed.
abbrev pub over_told : (Told → ℕ) → List Told → ℕ
over_told count [] = 0
over_told count (t ∷ rest) = count t + over_told count rest

-- the bytes of a packet that was completed, its checksum included
abbrev pub in_packet : Told → ℕ
in_packet (packet b) = length b
in_packet (tells.lost number dropped) = 0
in_packet (torn_frame number dropped question place) = 0
in_packet (tells.mark dropped) = 0

-- the bytes that are told of as dropped
abbrev pub told_dropped : Told → ℕ
told_dropped (packet b) = 0
told_dropped (tells.lost number dropped) = dropped
told_dropped (torn_frame number dropped question place) = dropped
told_dropped (tells.mark dropped) = dropped

-- The reader holds what it has gathered and the bodies that it has not read of the frame in hand.
abbrev pub holds : Reader → ℕ
holds r = dropped r.standing + bodies r.in_hand

-- 2. Slots.

abbrev pub is_gap : Standing → Slot → ℕ
is_gap r (Frame f) = 0
is_gap r Gap = 1
is_gap r Mark = 0

abbrev pub is_mark : Standing → Slot → ℕ
is_mark r (Frame f) = 0
is_mark r Gap = 0
is_mark r Mark = 1

abbrev pub one_if_torn : Verdict → ℕ
one_if_torn lawful = 0
one_if_torn (torn question place) = 1

abbrev pub is_torn : (width : ℕ) → Standing → Slot → ℕ
is_torn width r (Frame f) = one_if_torn (verdict_on width r f.bytes)
is_torn width r Gap = 0
is_torn width r Mark = 0

abbrev pub tells_lost : Told → ℕ
tells_lost (packet b) = 0
tells_lost (tells.lost number dropped) = 1
tells_lost (torn_frame number dropped question place) = 0
tells_lost (tells.mark dropped) = 0

abbrev pub tells_torn : Told → ℕ
tells_torn (packet b) = 0
tells_torn (tells.lost number dropped) = 0
tells_torn (torn_frame number dropped question place) = 1
tells_torn (tells.mark dropped) = 0

abbrev pub tells_mark : Told → ℕ
tells_mark (packet b) = 0
tells_mark (tells.lost number dropped) = 0
tells_mark (torn_frame number dropped question place) = 0
tells_mark (tells.mark dropped) = 1

-- 3. Both. A reader took these slots, told this, and is now another.

-- how it stands once the frame in hand is read out
abbrev pub read_out : Reader → Standing
read_out r = after_all r.standing r.in_hand

pub record Accounted (fasb : Bool) (width : ℕ) (before : Reader) (taken : List Slot) (told : List Told) (after : Reader) : Type 0 where
  -- Each byte that the reader held, and each byte of a body in a lawful frame that it took, is in a completed packet, or is
  -- told of as dropped, or was skipped while seeking, or is held by the reader; and none is in two of these.
  pub bytes : holds before + over_slots (bodies_in_slot width) fasb width (read_out before) taken
      ≡ over_told in_packet told + over_told told_dropped told
      + (skipped before.standing before.in_hand + over_slots (skipped_in_slot width) fasb width (read_out before) taken) + holds after
  -- Each gap is told of as lost, each torn frame as torn, each mark as a mark.
  pub gaps : over_told tells_lost told ≡ over_slots is_gap fasb width (read_out before) taken
  pub torn_frames : over_told tells_torn told ≡ over_slots (is_torn width) fasb width (read_out before) taken
  pub marks : over_told tells_mark told ≡ over_slots is_mark fasb width (read_out before) taken
