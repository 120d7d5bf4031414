-- Fair runs: a channel may lose frames, and in those that it does not lose it changes fragment bodies alone.
use Rattle.std.specs.Prelude.{◌≡◌, ℕ, ◌+◌, Bool, false, ◌&&◌, ◌||◌, List, [], ◌∷◌, length, nat_le, nat_lt, slice_index}
use Rattle.framing.specs.declared.slot.Slot.TheVariants.{Frame, Gap, Mark}
use Rattle.framing.specs.Fragments.{Fragment, body, notional, padding, fragments}
use Rattle.channel.specs.Sending.{Sent, sent_frame, sent_mark}

-- Whether the byte at an index, counted from 0, lies in the body of a fragment. The header's place is counted from 1, so it
-- is the index of the body's first byte.
abbrev pub in_body_of : Fragment → (index : ℕ) → Bool
in_body_of (body place bytes last) i = nat_le place i && nat_lt i (place + length bytes)
in_body_of (notional place) i = false
in_body_of (padding place) i = false

abbrev pub in_body : List Fragment → (index : ℕ) → Bool
in_body [] i = false
in_body (f ∷ fs) i = in_body_of f i || in_body fs i

-- A frame put, and the frame that came of it: headers, notional packets and padding came as put.
pub record BodiesOnly (frame came : List ℕ) : Type 0 where
  pub size : length came ≡ length frame
  pub same : (i : ℕ) → in_body (fragments frame) i ≡ false → slice_index came i ≡ slice_index frame i

-- A run is fair where the channel began empty, served this flow alone, and lost frames or changed bodies only. That it began
-- empty is a premise of a flow's set-up; that it served this flow alone is in the type, since the flow holds its channel.
-- What is left to say is this.
abbrev pub Fair : List Sent → Type 0
Fair [] = Unit {0}
Fair (sent_mark ∷ s) = Fair s
Fair (sent_frame f Gap ∷ s) = Fair s
Fair (sent_frame f (Frame g) ∷ s) = BodiesOnly f g.bytes × Fair s
Fair (sent_frame f Mark ∷ s) = ⊥
