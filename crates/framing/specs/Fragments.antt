-- The fragments of a frame, and the bytes of a fragment.
use Rattle.std.specs.Prelude.{ℕ, ◌+◌, ◌-◌, ◌<◌, Bool, cond, List, [], ◌∷◌, map, length, take, drop, replicate, ◌==◌, slice_index}
use Rattle.framing.specs.Header.{count_of, last_of, byte_of, Header, headers, headers_from}

-- A fragment, with its header's place: a body, of which the bytes are known and the last mark, a notional packet, or
-- padding.
pub data Fragment : Type 0 where
  body : (place : ℕ) → List ℕ → (last : Bool) → Fragment
  notional : (place : ℕ) → Fragment
  padding : (place : ℕ) → Fragment

-- The fragment that a header begins.
abbrev pub fragment_of : Header → Fragment
fragment_of h =
    cond (count_of h.byte == 127) (padding h.place)
    (cond (count_of h.byte == 0) (notional h.place)
    (body h.place (take (count_of h.byte) h.following) (last_of h.byte)))

-- The fragments of a frame, in order.
abbrev pub fragments : List ℕ → List Fragment
fragments frame = map fragment_of (headers frame)

-- The fragments of a frame from an index on, where a header stands.
abbrev pub fragments_from : List ℕ → ℕ → List Fragment
fragments_from frame at = map fragment_of (headers_from (at + 1) 0 (drop at frame))

-- The bytes of a fragment. Padding fills the frame with zeros, and its header is 0x7F; a notional packet is 0x80.
abbrev pub rendered : Fragment → List ℕ
rendered (body place bytes last) = byte_of (length bytes) last ∷ bytes
rendered (notional place) = 0x80 ∷ []
rendered (padding place) = 0x7F ∷ replicate (122 - place) 0

-- Each element is a byte.
abbrev pub Bytes : List ℕ → Type 0
Bytes s = (k : ℕ) → k < length s → slice_index s k < 256
