-- Laws of dealing a block's frames out to its bits.
use Rattle.std.proofs.Common.{◌≡◌, ℕ, suc, ◌+◌, ◌*◌, ◌/◌, ◌<◌, ◌≤◌, Bool, true, false, List, [], ◌∷◌, ◌++◌, map, length, take, drop, is_some, Some, None, Option, MatchOption, Bor, sym, refl, ap, ◌∙◌, ap₂, arith, take-add}
use Rattle.std.proofs.ByRecursion.{All-append, All-drop, All-take}
use Rattle.std.proofs.lemmas.List.{drop_all, drop_at, length-append, length-drop, length-take-le, take_all, take_at}
use Rattle.std.specs.List.{IsSplitAt}
use Rattle.std.specs.Option.{unwrap_or}
use Rattle.reel.specs.Bits.{bits, bit_at, count_of_set_bits}
use Rattle.reel.specs.Block.{Superframe, Bytes, Frames, frame_bytes, dealt}
use Rattle.reel.proofs.Bits.{next_bit}

-- the first 122 bytes and the others, where there may be fewer
pub first_frame : (bytes : List ℕ) (whole : Bor (List ℕ) × Bor (List ℕ)) (parts : Option (Bor (List ℕ) × Bor (List ℕ)))
    → whole.0.now ≡ bytes → whole.1.now ≡ []
    → MatchOption parts (length bytes < 122) (λ p. IsSplitAt bytes 122 p.0.now p.1.now)
    → ((unwrap_or parts whole).0.now ≡ take 122 bytes) × ((unwrap_or parts whole).1.now ≡ drop 122 bytes)
first_frame bytes whole None all none short = (
  all ∙ sym (take_all 122 bytes (omega arith)),
  none ∙ sym (drop_all 122 bytes (omega arith)),
)
first_frame bytes whole (Some p) all none split = (split.1, split.2)

module _ (map : List ℕ) (n i : ℕ) (frames : List ℕ) where
  abbrev left : ℕ → List ℕ → Superframe
  left k bytes = dealt (drop k (take n (bits map))) bytes

  pub deals_gap : i < n → i / 8 < length map → bit_at map i ≡ false → left i frames ≡ None ∷ left (i + 1) frames
  deals_gap below inside clear =
      ap (λ (xs : List Bool). dealt xs frames) (next_bit map n i below inside ∙ ap (λ (b : Bool). b ∷ drop (i + 1) (take n (bits map))) clear)

  pub deals_frame : i < n → i / 8 < length map → bit_at map i ≡ true
      → left i frames ≡ Some (take 122 frames) ∷ left (i + 1) (drop 122 frames)
  deals_frame below inside set =
      ap (λ (xs : List Bool). dealt xs frames) (next_bit map n i below inside ∙ ap (λ (b : Bool). b ∷ drop (i + 1) (take n (bits map))) set)

-- ---- what is dealt out, gathered again

pub length_dealt : (xs : List Bool) (bytes : List ℕ) → length (dealt xs bytes) ≡ length xs
length_dealt [] bytes = refl
length_dealt (true ∷ xs) bytes = ap suc (length_dealt xs (drop 122 bytes))
length_dealt (false ∷ xs) bytes = ap suc (length_dealt xs bytes)

pub marks_dealt : (xs : List Bool) (bytes : List ℕ) → map is_some (dealt xs bytes) ≡ xs
marks_dealt [] bytes = refl
marks_dealt (true ∷ xs) bytes = ap (λ (ys : List Bool). true ∷ ys) (marks_dealt xs (drop 122 bytes))
marks_dealt (false ∷ xs) bytes = ap (λ (ys : List Bool). false ∷ ys) (marks_dealt xs bytes)

pub bytes_dealt : (xs : List Bool) (bytes : List ℕ) → frame_bytes (dealt xs bytes) ≡ take (122 * count_of_set_bits xs) bytes
bytes_dealt [] bytes = refl
bytes_dealt (true ∷ xs) bytes =
    let e : 122 + 122 * count_of_set_bits xs ≡ 122 * (1 + count_of_set_bits xs) = omega arith in
    ap (λ (ys : List ℕ). take 122 bytes ++ ys) (bytes_dealt xs (drop 122 bytes))
    ∙ sym (take-add 122 (122 * count_of_set_bits xs) bytes)
    ∙ ap (λ (n : ℕ). take n bytes) e
bytes_dealt (false ∷ xs) bytes =
    let e : 122 * count_of_set_bits xs ≡ 122 * (0 + count_of_set_bits xs) = omega arith in
    bytes_dealt xs bytes ∙ ap (λ (n : ℕ). take n bytes) e

pub frames_dealt : (xs : List Bool) (bytes : List ℕ) → 122 * count_of_set_bits xs ≤ length bytes → Bytes bytes → Frames (dealt xs bytes)
frames_dealt [] bytes enough are = tt
frames_dealt (true ∷ xs) bytes enough are = (
  (length-take-le 122 bytes (omega arith), All-take (λ b. b < 256) 122 bytes are),
  frames_dealt xs (drop 122 bytes) (simp length-drop (omega arith)) (All-drop (λ b. b < 256) 122 bytes are),
)
frames_dealt (false ∷ xs) bytes enough are = (tt, frames_dealt xs bytes (omega arith) are)

-- ---- what is gathered, dealt out again

pub length_frames : (s : Superframe) → Frames s → length (frame_bytes s) ≡ 122 * count_of_set_bits (map is_some s)
length_frames [] h = refl
length_frames (None ∷ s) h = let more = length_frames s h.1 in omega arith
length_frames (Some f ∷ s) h = let more = length_frames s h.1 in let one = h.0.0 in simp length-append (omega arith)

pub bytes_frames : (s : Superframe) → Frames s → Bytes (frame_bytes s)
bytes_frames [] h = tt
bytes_frames (None ∷ s) h = bytes_frames s h.1
bytes_frames (Some f ∷ s) h = All-append (λ b. b < 256) f (frame_bytes s) h.0.1 (bytes_frames s h.1)

pub dealt_frames : (s : Superframe) → Frames s → dealt (map is_some s) (frame_bytes s) ≡ s
dealt_frames [] h = refl
dealt_frames (None ∷ s) h = ap (λ (t : Superframe). None ∷ t) (dealt_frames s h.1)
dealt_frames (Some f ∷ s) h =
    ap₂ (λ (g r : List ℕ). Some g ∷ dealt (map is_some s) r) (take_at f (frame_bytes s) 122 h.0.0) (drop_at f (frame_bytes s) 122 h.0.0)
    ∙ ap (λ (t : Superframe). Some f ∷ t) (dealt_frames s h.1)
