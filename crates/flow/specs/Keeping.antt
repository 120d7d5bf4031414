-- What the writing side keeps from call to call: all that was put is well put, and the packets in it, in the unfinished
-- frame and in what is carried over are those accepted.
use Rattle.std.specs.Prelude.{◌≡◌, ℕ, ◌+◌, ◌<◌, ◌≤◌, Bool, true, false, List, [], ◌∷◌, ◌++◌, length, None}
use Rattle.std.specs.List.{flat_map, AllByRecursion}
use Rattle.framing.specs.Header.{byte_of}
use Rattle.channel.specs.Sending.{Put}
use Rattle.flow.specs.Carrying.{Part, parts_in, parts_put, begun_after, packets_of, WellPut}
use Rattle.flow.specs.Writing.{State}

-- The bytes of a row of parts: each a header and then the part.

abbrev pub laid_one : Part → List ℕ
laid_one q = byte_of (length q.bytes) q.ends ∷ q.bytes

abbrev pub laid : List Part → List ℕ
laid qs = flat_map laid_one qs

-- a body has 1 to 121 bytes
abbrev pub Sized : Part → Type 0
Sized q = (1 ≤ length q.bytes) × (length q.bytes ≤ 121)

abbrev pub Ends : Part → Type 0
Ends q = q.ends ≡ true

-- An unfinished frame is laid from parts that each end a packet.
pub record Unfinished (begun : List ℕ) : Type 0 where
  pub row : List Part
  pub laid_is : begun ≡ laid row
  pub sized : AllByRecursion Sized row
  pub end : AllByRecursion Ends row
  pub short : length begun ≤ 120

-- no packet is longer than `limit`
abbrev pub Short : ℕ → List (List ℕ) → Type 0
Short limit ps = AllByRecursion (λ p. length p ≤ limit) ps

-- `ps` are the packets accepted so far, each with its checksum, and `puts` is all that was put.
pub record Keeps (fasb : Bool) (width : ℕ) (ps : List (List ℕ)) (puts : List Put) (s : State) : Type 0 where
  pub well_put : WellPut fasb width None puts
  pub unfinished : Unfinished s.begun
  pub packets : packets_of None (parts_put puts ++ parts_in s.begun) s.over ≡ ps
  pub short : Short (2044 + width) ps
  -- where nothing is carried over, no packet is begun
  pub settled : s.over ≡ [] → begun_after None (parts_put puts ++ parts_in s.begun) ≡ None
  pub spent : s.left ≡ 0 → s.begun ≡ []
  pub clear : 0 < s.left → s.over ≡ []
  pub shut : s.opened ≡ false → s.left ≡ 0
  pub whole : fasb ≡ false → s.over ≡ []
