-- Where packets lie: in which frames that were put, and what came of them. All of it is read off the frames as put and
-- the slots that they became.
use Rattle.std.specs.Prelude.{ℕ, Bool, true, false, cond, not, ◌&&◌, ◌||◌, List, [], ◌∷◌, ◌++◌, length, take, drop, Some, None, Option, ◌==◌}
use Rattle.std.specs.List.{flat_map}
use Rattle.framing.specs.declared.slot.Slot.{Slot}
use Rattle.framing.specs.declared.slot.Slot.TheVariants.{Frame, Gap, Mark}
use Rattle.framing.specs.Fragments.{Fragment, body, notional, padding, fragments}
use Rattle.channel.specs.Sending.{Sent, sent_frame, sent_mark}

-- 1. The pieces of packets.

-- One piece of a packet: a fragment's body as it was cut, and as it came (none in a gap); whether the packet ends with it;
-- and whether, if a packet begins with it, a reader can know that one does.
pub record Piece : Type 0 where
  pub cut : List ℕ
  pub came : Option (List ℕ)
  pub ends : Bool
  pub knowable : Bool

-- The bytes that stand in a slot where a fragment's body was cut; its header is at `place`, counted from 1.
abbrev pub part : Slot → (place size : ℕ) → Option (List ℕ)
part (Frame g) place size = Some (take size (drop place g.bytes))
part Gap place size = None
part Mark place size = None

-- The piece that a fragment is, if it has a body. A packet that begins with it begins knowably where it is not the first
-- fragment of its frame, or where one that begins with the frame would.
abbrev pub piece_of : (known : Bool) → Slot → Fragment → List Piece
piece_of known slot (body place bytes last) =
    record { cut = bytes; came = part slot place (length bytes); ends = last; knowable = not (place == 1) || known } ∷ []
piece_of known slot (notional place) = []
piece_of known slot (padding place) = []

abbrev pub pieces_of : (known : Bool) → (frame : List ℕ) → Slot → List Piece
pieces_of known frame slot = flat_map (piece_of known slot) (fragments frame)

-- Slots that stand before, the nearest first: whether the frame before, marks passed over, is a gap (where there is no frame
-- before, none is).
abbrev pub gap_before : List Slot → Bool
gap_before [] = false
gap_before (Mark ∷ before) = gap_before before
gap_before (Gap ∷ before) = true
gap_before (Frame g ∷ before) = false

-- Whether a mark comes directly before.
abbrev pub mark_before : List Slot → Bool
mark_before [] = false
mark_before (Mark ∷ before) = true
mark_before (Gap ∷ before) = false
mark_before (Frame g ∷ before) = false

-- Whether a packet that begins with a frame begins knowably: the frame before is no gap; or packets do not cross
-- superframes (`fasb` is off), and a mark comes directly before.
abbrev pub known_start : (fasb : Bool) → (before : List Slot) → Bool
known_start fasb before = not (gap_before before) || (not fasb && mark_before before)

-- The pieces of all that was sent. `before` is what stands before the beginning, the nearest first.
abbrev pub pieces : (fasb : Bool) (before : List Slot) → List Sent → List Piece
pieces fasb before [] = []
pieces fasb before (sent_mark ∷ s) = pieces fasb (Mark ∷ before) s
pieces fasb before (sent_frame f x ∷ s) = pieces_of (known_start fasb before) f x ++ pieces fasb (x ∷ before) s

-- 2. Packets. Each ends with a last mark. (A notional packet has no byte, and is none.)

-- The pieces of each packet that is all there; `begun` are those of one that has begun before.
abbrev pub grouped : (begun : List Piece) → List Piece → List (List Piece)
grouped begun [] = []
grouped begun (q ∷ qs) = cond q.ends ((begun ++ (q ∷ [])) ∷ grouped [] qs) (grouped (begun ++ (q ∷ [])) qs)

-- The pieces of the one that has begun, and whose end is not there.
abbrev pub still_begun : (begun : List Piece) → List Piece → List Piece
still_begun begun [] = begun
still_begun begun (q ∷ qs) = cond q.ends (still_begun [] qs) (still_begun (begun ++ (q ∷ [])) qs)

-- The packets that are all put, each by its pieces, its checksum among them.
abbrev pub groups : (fasb : Bool) (before : List Slot) → List Sent → List (List Piece)
groups fasb before s = grouped [] (pieces fasb before s)

abbrev pub unfinished : (fasb : Bool) (before : List Slot) → List Sent → List Piece
unfinished fasb before s = still_begun [] (pieces fasb before s)

-- A packet and its checksum as they were cut, and as they stand in the slots.

abbrev pub as_cut : List Piece → List ℕ
as_cut g = flat_map (λ q. q.cut) g

abbrev pub or_none : Option (List ℕ) → List ℕ
or_none None = []
or_none (Some b) = b

abbrev pub as_received : List Piece → List ℕ
as_received g = flat_map (λ q. or_none q.came) g

-- 3. Clear packets.

abbrev pub is_here : Option (List ℕ) → Bool
is_here None = false
is_here (Some b) = true

-- none of its frames became a gap
abbrev pub all_came : List Piece → Bool
all_came [] = true
all_came (q ∷ qs) = is_here q.came && all_came qs

-- it begins knowably
abbrev pub start_known : List Piece → Bool
start_known [] = false
start_known (q ∷ qs) = q.knowable

abbrev pub is_clear : List Piece → Bool
is_clear g = all_came g && start_known g

abbrev pub clear_only : List (List Piece) → List (List Piece)
clear_only [] = []
clear_only (g ∷ gs) = cond (is_clear g) (g ∷ clear_only gs) (clear_only gs)

-- The clear packets among those that are all put, in the order offered.
abbrev pub clear : (fasb : Bool) (before : List Slot) → List Sent → List (List Piece)
clear fasb before s = clear_only (groups fasb before s)

-- 4. Gaps.

abbrev pub gap_of : Slot → List (Unit {0})
gap_of Gap = tt ∷ []
gap_of (Frame g) = []
gap_of Mark = []

-- how many of the slots are gaps
abbrev pub gaps : List Slot → ℕ
gaps slots = length (flat_map gap_of slots)
