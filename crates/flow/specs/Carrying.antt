-- What frames carry: the parts of packets that were cut into them, and the packets that these are.
use Rattle.std.specs.Prelude.{◌≡◌, ℕ, Bool, true, false, cond, List, [], ◌∷◌, ◌++◌, length, Some, None, Option}
use Rattle.std.specs.List.{flat_map}
use Rattle.framing.specs.Fragments.{Fragment, body, notional, padding, fragments}
use Rattle.framing.specs.Judging.{judgment, lawful}
use Rattle.channel.specs.Sending.{Put, a_frame, a_mark}

-- A part of a packet: the body of a fragment, and whether the packet ends with it.
pub record Part : Type 0 where
  pub bytes : List ℕ
  pub ends : Bool

abbrev pub part_of : Fragment → List Part
part_of (body place bytes last) = record { bytes = bytes; ends = last } ∷ []
part_of (notional place) = []
part_of (padding place) = []

-- the parts in a frame, and in all frames put
abbrev pub parts_in : List ℕ → List Part
parts_in frame = flat_map part_of (fragments frame)

abbrev pub parts_put : List Put → List Part
parts_put [] = []
parts_put (a_frame f ∷ puts) = parts_in f ++ parts_put puts
parts_put (a_mark ∷ puts) = parts_put puts

-- What there is of a packet whose end is not there: these bytes, or no packet is begun.

abbrev pub so_far : Option (List ℕ) → List ℕ
so_far None = []
so_far (Some b) = b

abbrev pub begun_after_one : Option (List ℕ) → Part → Option (List ℕ)
begun_after_one at q = cond q.ends None (Some (so_far at ++ q.bytes))

abbrev pub begun_after : Option (List ℕ) → List Part → Option (List ℕ)
begun_after at [] = at
begun_after at (q ∷ qs) = begun_after (begun_after_one at q) qs

-- The packets whose end is there.

abbrev pub ended_by_one : Option (List ℕ) → Part → List (List ℕ)
ended_by_one at q = cond q.ends ((so_far at ++ q.bytes) ∷ []) []

abbrev pub ended_by : Option (List ℕ) → List Part → List (List ℕ)
ended_by at [] = []
ended_by at (q ∷ qs) = ended_by_one at q ++ ended_by (begun_after_one at q) qs

-- The one packet that is begun, or of which bytes are still to be cut, if there is one.
abbrev pub not_ended : Option (List ℕ) → List ℕ → List (List ℕ)
not_ended None [] = []
not_ended None (b ∷ over) = (b ∷ over) ∷ []
not_ended (Some begun) over = (begun ++ over) ∷ []

-- The packets of these parts, and of bytes that are still to be cut.
abbrev pub packets_of : Option (List ℕ) → List Part → (over : List ℕ) → List (List ℕ)
packets_of at qs over = ended_by at qs ++ not_ended (begun_after at qs) over

-- A packet is cut nowhere but at a frame's end: of the parts in a frame each but the last one ends a packet.
abbrev pub CutAtEnd : List Part → Type 0
CutAtEnd [] = Unit {0}
CutAtEnd (q ∷ []) = Unit {0}
CutAtEnd (q ∷ r ∷ rs) = (q.ends ≡ true) × CutAtEnd (r ∷ rs)

-- how many bytes of a packet are begun
abbrev pub counted : Option (List ℕ) → Option ℕ
counted None = None
counted (Some begun) = Some (length begun)

-- What was put behind what is begun. Each frame has 122 bytes, is lawful for a reader that has followed the writer, under
-- a checksum of this width, and cuts a packet at its end alone. Where packets may not cross superframes (`fasb` is off), no
-- packet is begun at a mark.
abbrev pub WellPut : (fasb : Bool) (width : ℕ) → Option (List ℕ) → List Put → Type 0
WellPut fasb width at [] = Unit {0}
WellPut fasb width at (a_frame f ∷ puts) =
    (length f ≡ 122)
    × ((judgment width (counted at) f).verdict ≡ lawful)
    × CutAtEnd (parts_in f)
    × WellPut fasb width (begun_after at (parts_in f)) puts
WellPut fasb width at (a_mark ∷ puts) = (fasb ≡ false → at ≡ None) × WellPut fasb width at puts

-- Each frame is lawful where no packet is open, too.
abbrev pub EachLawful : (width : ℕ) → List Put → Type 0
EachLawful width [] = Unit {0}
EachLawful width (a_frame f ∷ puts) = ((judgment width None f).verdict ≡ lawful) × EachLawful width puts
EachLawful width (a_mark ∷ puts) = EachLawful width puts
