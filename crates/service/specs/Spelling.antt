-- What sync headers are, apart from how they are read and written: which facts are lawful, and which packet spells them.
-- Assumes nothing.
use Rattle.std.specs.Prelude.{◌≡◌, ℕ, ◌^◌, ◌<◌, true, List, length, is_some, Some, None, Ok, Option, Result, slice_index}
use Rattle.service.specs.Encoding.{encoding}
use Rattle.service.specs.Map.{has_frame, can_enter, can_skip}
use Rattle.service.specs.declared.header.Kind.TheVariants.{Video}
use Rattle.service.specs.declared.header.SyncHeader.{SyncHeader}

-- each element is a byte
abbrev pub Bytes : List ℕ → Type 0
Bytes s = (k : ℕ) → k < length s → slice_index s k < 256

-- a field that is absent or below a limit
abbrev pub Below : ℕ → Option ℕ → Type 0
Below limit o = (n : ℕ) → o ≡ Some n → n < limit

-- the frame id fits one byte, the timestamp four
abbrev pub Fit : SyncHeader → Type 0
Fit h = Below 256 h.frame_id × Below (2 ^ 32) h.timestamp

-- Facts that a header may tell: packets belong to a frame exactly where their kind does, a flag is set only for a kind
-- that can have it, video frames have the numbers 0 to 59, and the fields fit.
pub record Lawful (h : SyncHeader) : Type 0 where
  pub frame : is_some h.frame_id ≡ has_frame h.kind
  pub entry : h.access_point ≡ true → can_enter h.kind ≡ true
  pub skip : h.unreferenced ≡ true → can_skip h.kind ≡ true
  pub video : h.kind ≡ Video → Below 60 h.frame_id
  pub fits : Fit h

-- the packet s is the lawful header h followed by a payload
pub record Spells (s : List ℕ) (h : SyncHeader) (payload : List ℕ) : Type 0 where
  pub lawful : Lawful h
  pub some : 0 < length payload
  pub whole : s ≡ encoding h payload

-- An answer to a reading of s that is right: it is h and the payload exactly where s spells them.
abbrev pub ReadsExactly : List ℕ → Result (SyncHeader × List ℕ) ℕ → Type 0
ReadsExactly s r =
    (h : SyncHeader) (payload : List ℕ)
    → (r ≡ Ok (h, payload) → Spells s h payload) × (Spells s h payload → r ≡ Ok (h, payload))

-- s has one meaning: it spells at most one header and payload
abbrev pub OneMeaning : List ℕ → Type 0
OneMeaning s =
    (h k : SyncHeader) (payload other : List ℕ)
    → Spells s h payload → Spells s k other → (h ≡ k) × (payload ≡ other)

-- A verdict on s that is right: s is admitted exactly where it spells some header and payload.
abbrev pub AdmitsExactly : List ℕ → Option ℕ → Type 0
AdmitsExactly s v =
    (v ≡ None → (h : SyncHeader) × (payload : List ℕ) × Spells s h payload)
    × ((h : SyncHeader) (payload : List ℕ) → Spells s h payload → v ≡ None)
