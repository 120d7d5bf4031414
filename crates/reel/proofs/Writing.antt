-- Writing a block and reading it undo each other.
use Rattle.std.proofs.Common.{◌≡◌, ℕ, zero, suc, ◌+◌, ◌-◌, ◌*◌, ◌<◌, ◌≤◌, Bool, true, false, List, [], ◌∷◌, ◌++◌, map, length, take, drop, replicate, is_some, None, sym, refl, ap, ◌∙◌, ap₂, append_assoc, arith}
use Rattle.std.proofs.ByRecursion.{All-append, All-drop, All-take}
use Rattle.std.proofs.lemmas.List.{drop_at, drop-drop, drop_more, length-append, length-map, length-take, take_all, take-append-drop, take_at}
use Rattle.reel.specs.Bits.{bits, map_of, size_of_map, count_of_set_bits, all_clear}
use Rattle.reel.specs.Block.{Superframe, Bytes, Fits, frame_bytes, block_of, size, map_part, frames_size, behind_map, frames_part, block_size, dealt, superframe, refusal}
use Rattle.reel.proofs.Bits.{length_bits, set_bits_append}
use Rattle.reel.proofs.Dealing.{bytes_dealt, bytes_frames, dealt_frames, frames_dealt, length_dealt, length_frames, marks_dealt}
use Rattle.reel.proofs.Maps.{bits_map_of, bytes_map_of, length_map_of, map_of_bits}
use Rattle.reel.proofs.Questions.{lawful, none_refused, within}

clear_count : (n : ℕ) → count_of_set_bits (replicate n false) ≡ 0
clear_count zero = refl
clear_count (suc n) = let more = clear_count n in omega arith

clear_all : (n : ℕ) → all_clear (replicate n false) ≡ true
clear_all zero = refl
clear_all (suc n) = clear_all n

spare_count : (xs : List Bool) → all_clear xs ≡ true → count_of_set_bits xs ≡ 0
spare_count [] e = refl
spare_count (true ∷ xs) e = let z : ◌≡◌ {A = ℕ} 0 1 = cc in absurd (omega arith)
spare_count (false ∷ xs) e = let more = spare_count xs e in omega arith

-- ---- written, then read

module _ (s : Superframe) (rest : List ℕ) (fits : Fits s) where
  abbrev n : ℕ
  n = length s

  abbrev marks : List Bool
  marks = map is_some s

  abbrev m : List ℕ
  m = map_of (size_of_map n) marks

  abbrev f : List ℕ
  f = frame_bytes s

  abbrev whole : List ℕ
  whole = block_of s ++ rest

  marks_long : length marks ≡ n
  marks_long = length-map s is_some

  map_is : map_part whole ≡ m
  map_is = ap (λ (xs : List ℕ). take (size_of_map n) xs) (append_assoc m f rest) ∙ take_at m (f ++ rest) (size_of_map n) (length_map_of (size_of_map n) marks)

  behind_is : behind_map whole ≡ f ++ rest
  behind_is = ap (λ (xs : List ℕ). drop (size_of_map n) xs) (append_assoc m f rest) ∙ drop_at m (f ++ rest) (size_of_map n) (length_map_of (size_of_map n) marks)

  abbrev spare : List Bool
  spare = replicate (8 * size_of_map n - length marks) false

  bits_are : bits (map_part whole) ≡ marks ++ spare
  bits_are = let long = marks_long in ap bits map_is ∙ bits_map_of (size_of_map n) marks (omega arith)

  marks_are : take n (bits (map_part whole)) ≡ marks
  marks_are = ap (λ (xs : List Bool). take n xs) bits_are ∙ take_at marks spare n marks_long

  spare_is : drop n (bits (map_part whole)) ≡ spare
  spare_is = ap (λ (xs : List Bool). drop n xs) bits_are ∙ drop_at marks spare n marks_long

  frames_long : frames_size whole ≡ length f
  frames_long =
      let count = ap count_of_set_bits bits_are ∙ set_bits_append marks spare in
      let none = clear_count (8 * size_of_map n - length marks) in
      let long = length_frames s fits.frames in
      omega arith

  frames_are : frames_part whole ≡ f
  frames_are = ap₂ (λ (k : ℕ) (xs : List ℕ). take k xs) frames_long behind_is ∙ take_at f rest (length f) refl

  pub written_lawful : refusal whole ≡ None
  written_lawful =
      let map_long : size_of_map n ≤ length ((m ++ f) ++ rest) = let long = length_map_of (size_of_map n) marks in simp length-append (omega arith) in
      let behind_long = ap length behind_is ∙ length-append f rest in
      let long = frames_long in
      none_refused whole
      (record {
        sized = (fits.some, fits.most);
        mapped = (map_long, ap all_clear spare_is ∙ clear_all (8 * size_of_map n - length marks));
        framed = omega arith;
      })

  pub written_read : superframe whole ≡ s
  written_read = ap₂ dealt marks_are frames_are ∙ dealt_frames s fits.frames

  pub written_size : block_size whole ≡ length (block_of s)
  written_size =
      let long = length_map_of (size_of_map n) marks in let frames = frames_long in let all = length-append m f in omega arith

pub written_bytes : (s : Superframe) → Fits s → Bytes (block_of s)
written_bytes s fits =
    let most = fits.most in (
      omega arith,
      All-append (λ b. b < 256) (map_of (size_of_map (length s)) (map is_some s)) (frame_bytes s)
          (bytes_map_of (size_of_map (length s)) (map is_some s)) (bytes_frames s fits.frames),
    )

-- ---- read, then written

-- the bits of a block's map that belong to its frames and gaps
module _ (bytes : List ℕ) where
  abbrev pub shown : List Bool
  shown = take (size bytes) (bits (map_part bytes))

module _ (bytes : List ℕ) (fine : refusal bytes ≡ None) where
  pub shown_long : length (shown bytes) ≡ size bytes
  shown_long =
      let map_long = (within bytes (lawful bytes fine)).map in
      let long = length_bits (map_part bytes) in
      simp length-take (omega arith)

  pub shown_count : count_of_set_bits (shown bytes) ≡ count_of_set_bits (bits (map_part bytes))
  shown_count =
      let spare = drop (size bytes) (bits (map_part bytes)) in
      let none = spare_count spare (lawful bytes fine).mapped.1 in
      let sum = set_bits_append (shown bytes) spare in
      let all = ap count_of_set_bits (take-append-drop (size bytes) (bits (map_part bytes))) in
      omega arith

module _ (bytes : List ℕ) (are : Bytes bytes) (fine : refusal bytes ≡ None) where
  abbrev k : ℕ
  k = size bytes

  rest_are : Bytes (drop 1 bytes)
  rest_are = All-drop (λ b. b < 256) 1 bytes are

  pub read_fits : Fits (superframe bytes)
  read_fits =
      let ok = lawful bytes fine in
      let parts = within bytes ok in
      let long = length_dealt (shown bytes) (frames_part bytes) ∙ shown_long bytes fine in
      let count = shown_count bytes fine in
      record {
        some = omega (arith, ok.sized);
        most = omega (arith, ok.sized);
        frames =
            frames_dealt (shown bytes) (frames_part bytes) (omega (arith, parts.frames))
            (All-take (λ b. b < 256) (frames_size bytes) (behind_map bytes) (All-drop (λ b. b < 256) (size_of_map k) (drop 1 bytes) rest_are));
      }

  map_again : map_of (size_of_map k) (shown bytes) ≡ map_part bytes
  map_again =
      let ok = lawful bytes fine in
      ap (λ (i : ℕ). map_of i (shown bytes)) (sym (within bytes ok).map)
      ∙ map_of_bits (map_part bytes) k (All-take (λ b. b < 256) (size_of_map k) (drop 1 bytes) rest_are) ok.mapped.1

  frames_again : frame_bytes (superframe bytes) ≡ frames_part bytes
  frames_again =
      let parts = within bytes (lawful bytes fine) in
      let count = shown_count bytes fine in
      bytes_dealt (shown bytes) (frames_part bytes) ∙ take_all (122 * count_of_set_bits (shown bytes)) (frames_part bytes) (omega (arith, parts.frames))

  block_again : block_of (superframe bytes) ≡ k ∷ (map_part bytes ++ frames_part bytes)
  block_again =
      let long = length_dealt (shown bytes) (frames_part bytes) ∙ shown_long bytes fine in
      ap₂ (λ (i : ℕ) (xs : List ℕ). i ∷ xs) long
      (ap₂ (λ (xs ys : List ℕ). xs ++ ys)
      (ap₂ (λ (i : ℕ) (xs : List Bool). map_of (size_of_map i) xs) long (marks_dealt (shown bytes) (frames_part bytes)) ∙ map_again) frames_again)

  pub read_written : block_of (superframe bytes) ++ drop (block_size bytes) bytes ≡ bytes
  read_written =
      let end = drop (block_size bytes) bytes in
      let some : 0 < length bytes = omega (arith, (within bytes (lawful bytes fine)).whole) in
      let tail : drop (frames_size bytes) (behind_map bytes) ≡ end =
      ap (λ (xs : List ℕ). drop (frames_size bytes) xs) (drop-drop (size_of_map k) 1 bytes) ∙ drop-drop (frames_size bytes) (1 + size_of_map k) bytes in
      ap (λ (xs : List ℕ). xs ++ end) block_again
      ∙ ap (λ (xs : List ℕ). k ∷ xs)
      (append_assoc (map_part bytes) (frames_part bytes) end
      ∙ ap (λ (xs : List ℕ). map_part bytes ++ xs) (ap (λ (xs : List ℕ). frames_part bytes ++ xs) (sym tail) ∙ take-append-drop (frames_size bytes) (behind_map bytes))
      ∙ take-append-drop (size_of_map k) (drop 1 bytes))
      ∙ sym (drop_more bytes 0 0 some)
