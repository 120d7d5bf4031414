-- Reading: what a reader answers to the slots that it takes, one after another.
use Rattle.std.specs.Prelude.{ℕ, ◌+◌, min, Bool, true, false, List, [], ◌∷◌, ◌++◌, map, length, Some, None, Option}
use Rattle.framing.specs.declared.slot.Slot.{Slot}
use Rattle.framing.specs.declared.slot.Slot.TheVariants.{Frame, Gap, Mark}
use Rattle.framing.specs.Fragments.{Fragment, body, notional, padding, fragments}
use Rattle.framing.specs.Judging.{judgment, Verdict, lawful, torn}

-- How a reader stands to the packets. Aligned: the next body begins one. Gathering: it has these bytes of one whose end it
-- has not seen. Seeking: it does not know where the next one begins.
pub data Standing : Type 0 where
  aligned : Standing
  gathering : List ℕ → Standing
  seeking : Standing

-- What the reader has of an open packet: how many bytes, or no packet open.
abbrev pub gathered : Standing → Option ℕ
gathered aligned = None
gathered (gathering b) = Some (length b)
gathered seeking = None

-- The gathered bytes that a slot lets go.
abbrev pub dropped : Standing → ℕ
dropped aligned = 0
dropped (gathering b) = length b
dropped seeking = 0

-- 1. One fragment.

-- The standing after a fragment. Seeking, bodies are skipped through the first last mark, or to padding.
abbrev pub after_one : Standing → Fragment → Standing
after_one aligned (body p b true) = aligned
after_one aligned (body p b false) = gathering b
after_one (gathering a) (body p b true) = aligned
after_one (gathering a) (body p b false) = gathering (a ++ b)
after_one seeking (body p b true) = aligned
after_one seeking (body p b false) = seeking
after_one r (notional p) = r
after_one aligned (padding p) = aligned
after_one (gathering a) (padding p) = gathering a
after_one seeking (padding p) = aligned

-- The packet, its checksum behind it, that a fragment completes.
abbrev pub completed : Standing → Fragment → Option (List ℕ)
completed aligned (body p b true) = Some b
completed aligned (body p b false) = None
completed (gathering a) (body p b true) = Some (a ++ b)
completed (gathering a) (body p b false) = None
completed seeking (body p b l) = None
completed r (notional p) = None
completed r (padding p) = None

-- 2. The fragments of a frame.

abbrev pub after_all : Standing → List Fragment → Standing
after_all r [] = r
after_all r (f ∷ fs) = after_all (after_one r f) fs

abbrev pub listed : {A : Type 0} → Option A → List A
listed None = []
listed (Some a) = a ∷ []

-- All packets that these fragments complete.
abbrev pub completes : Standing → List Fragment → List (List ℕ)
completes r [] = []
completes r (f ∷ fs) = listed (completed r f) ++ completes (after_one r f) fs

-- 3. A slot. Frames and gaps are numbered from 1, up to 65,535, where the number stays; a mark begins the numbering anew.

abbrev pub next_number : ℕ → ℕ
next_number n = min (n + 1) 65535

-- What there is to tell of the slots: a packet that was completed, with its checksum behind it; a lost frame, by its
-- number, and how many gathered bytes were dropped; a torn frame, likewise, with the question and the place of the header
-- at fault; a mark, and how many gathered bytes were dropped.
pub data Told : Type 0 where
  packet : List ℕ → Told
  lost : (number dropped : ℕ) → Told
  torn_frame : (number dropped question place : ℕ) → Told
  mark : (dropped : ℕ) → Told

-- With packets that may cross superframes a mark changes nothing; else it drops what was gathered and aligns the reader.
abbrev pub after_mark : Bool → Standing → Standing
after_mark true r = r
after_mark false r = aligned

abbrev pub dropped_at_mark : Bool → Standing → ℕ
dropped_at_mark true r = 0
dropped_at_mark false r = dropped r

-- A frame is judged first, for a reader that stands so; a torn one counts as a gap.
abbrev pub after_frame : Verdict → Standing → List Fragment → Standing
after_frame lawful r fs = after_all r fs
after_frame (torn q p) r fs = seeking

abbrev pub told_of_frame : Verdict → (number : ℕ) → Standing → List Fragment → List Told
told_of_frame lawful n r fs = map packet (completes r fs)
told_of_frame (torn q p) n r fs = torn_frame n (dropped r) q p ∷ []

abbrev pub verdict_on : (width : ℕ) → Standing → List ℕ → Verdict
verdict_on width r bytes = (judgment width (gathered r) bytes).verdict

abbrev pub after_slot : (fasb : Bool) (width : ℕ) → Standing → Slot → Standing
after_slot fasb width r (Frame f) = after_frame (verdict_on width r f.bytes) r (fragments f.bytes)
after_slot fasb width r Gap = seeking
after_slot fasb width r Mark = after_mark fasb r

abbrev pub number_after : ℕ → Slot → ℕ
number_after n (Frame f) = next_number n
number_after n Gap = next_number n
number_after n Mark = 0

abbrev pub told_of_slot : (fasb : Bool) (width : ℕ) → Standing → ℕ → Slot → List Told
told_of_slot fasb width r n (Frame f) = told_of_frame (verdict_on width r f.bytes) (next_number n) r (fragments f.bytes)
told_of_slot fasb width r n Gap = lost (next_number n) (dropped r) ∷ []
told_of_slot fasb width r n Mark = mark (dropped_at_mark fasb r) ∷ []

-- 4. All slots: reading is a fold over them.

abbrev pub told_of : (fasb : Bool) (width : ℕ) → Standing → ℕ → List Slot → List Told
told_of fasb width r n [] = []
told_of fasb width r n (s ∷ rest) = told_of_slot fasb width r n s ++ told_of fasb width (after_slot fasb width r s) (number_after n s) rest

abbrev pub standing_after : (fasb : Bool) (width : ℕ) → Standing → List Slot → Standing
standing_after fasb width r [] = r
standing_after fasb width r (s ∷ rest) = standing_after fasb width (after_slot fasb width r s) rest

-- 5. One reading: it goes on until there is one thing to tell.

-- A reader: how it stands, the number of the last frame or gap since the last mark, and what it has not yet read of the
-- frame in hand.
pub record Reader : Type 0 where
  pub standing : Standing
  pub number : ℕ
  pub in_hand : List Fragment

abbrev pub new_reader : Reader
new_reader = record { standing = aligned; number = 0; in_hand = [] }

-- What a reader still has to tell, of the frame in hand and then of the slots that wait.
abbrev pub owed : (fasb : Bool) (width : ℕ) → Reader → List Slot → List Told
owed fasb width r slots = map packet (completes r.standing r.in_hand) ++ told_of fasb width (after_all r.standing r.in_hand) r.number slots

-- Going through fragments to the first packet that they complete.
pub record Found : Type 0 where
  pub found : Option (List ℕ)
  pub standing : Standing
  pub unread : List Fragment

abbrev pub found_or : Option (List ℕ) → Standing → List Fragment → Found → Found
found_or (Some p) r fs later = record { found = Some p; standing = r; unread = fs }
found_or None r fs later = later

abbrev pub first_completed : Standing → List Fragment → Found
first_completed r [] = record { found = None; standing = r; unread = [] }
first_completed r (f ∷ fs) = found_or (completed r f) (after_one r f) fs (first_completed (after_one r f) fs)

-- What one reading comes to: what it tells (nothing, where no slot waits and the frame in hand is read out), the reader
-- after it, and the slots that it took.
pub record Outcome : Type 0 where
  pub told : Option Told
  pub reader : Reader
  pub taken : List Slot

abbrev pub behind : Slot → Outcome → Outcome
behind s o = record { told = o.told; reader = o.reader; taken = s ∷ o.taken }

-- fragments were gone through: a packet was found, or the reading goes on
abbrev pub or_on : Found → ℕ → Outcome → Outcome
or_on s n later = elim s.found [ Some p ↦ record { told = Some (packet p); reader = record { standing = s.standing; number = n; in_hand = s.unread }; taken = [] } | None ↦ later ]

-- a torn frame is told of; a lawful one is gone through
abbrev pub of_frame : Verdict → Standing → ℕ → List Fragment → Outcome → Outcome
of_frame lawful r n fs later = or_on (first_completed r fs) n later
of_frame (torn q p) r n fs later = record { told = Some (torn_frame n (dropped r) q p); reader = record { standing = seeking; number = n; in_hand = [] }; taken = [] }

abbrev pub reading_slots : (fasb : Bool) (width : ℕ) → Standing → ℕ → List Slot → Outcome
reading_slots fasb width r n [] = record { told = None; reader = record { standing = r; number = n; in_hand = [] }; taken = [] }
reading_slots fasb width r n (Mark ∷ rest) =
    record { told = Some (mark (dropped_at_mark fasb r)); reader = record { standing = after_mark fasb r; number = 0; in_hand = [] }; taken = Mark ∷ [] }
reading_slots fasb width r n (Gap ∷ rest) =
    record { told = Some (lost (next_number n) (dropped r)); reader = record { standing = seeking; number = next_number n; in_hand = [] }; taken = Gap ∷ [] }
reading_slots fasb width r n (Frame f ∷ rest) =
    behind (Frame f) (of_frame (verdict_on width r f.bytes) r (next_number n) (fragments f.bytes)
    (reading_slots fasb width (after_all r (fragments f.bytes)) (next_number n) rest))

abbrev pub reading : (fasb : Bool) (width : ℕ) → Reader → List Slot → Outcome
reading fasb width r slots =
    or_on (first_completed r.standing r.in_hand) r.number
    (reading_slots fasb width (after_all r.standing r.in_hand) r.number slots)
