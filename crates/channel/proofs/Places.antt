-- What a write to one place of a ring's memory leaves.
use Rattle.std.proofs.Common.{◌≡◌, ℕ, ◌+◌, ◌-◌, ◌*◌, ◌<◌, ◌≤◌, List, length, get_or, take, drop, set, sym, ap, ◌∙◌, ap₂, arith, rules}
use borrow.Rule.Slice.PartMut.{put_mid}
use Rattle.std.proofs.lemmas.List.{length-set, get_or-set_same, take-set, drop-set-lt, get_or-take, places}
use Rattle.std.proofs.lemmas.Slice.{take-put_mid_below, drop-put_mid, between-put_mid}
use Rattle.framing.specs.declared.slot.Slot.TheVariants.{Frame}
use Rattle.channel.specs.Rings.{capacity, slot_of, slot_at, OnlyAt}

-- the 123 bytes of a place lie in the memory
pub place_fits : (memory : List ℕ) (place : ℕ) → place < capacity memory → place * 123 + 123 ≤ length memory
place_fits memory place below = omega arith

-- a byte written at the front of a place
pub only_tag :
    (memory : List ℕ) (place tag : ℕ) → place < capacity memory → OnlyAt place memory (set memory (place * 123) tag)
only_tag memory place tag below =
    record {
      before = take-set memory (place * 123) tag;
      behind = drop-set-lt (place * 123 + 123) memory (place * 123) tag (omega arith);
      long = length-set memory (place * 123) tag;
    }

pub tag_read :
    (memory : List ℕ) (place tag : ℕ) → place < capacity memory → get_or (set memory (place * 123) tag) (place * 123) 0 ≡ tag
tag_read memory place tag below = get_or-set_same memory (place * 123) tag 0 (omega (arith, place_fits memory place below))

-- the memory after a frame was written at a place
abbrev pub with_frame : List ℕ → ℕ → List ℕ → List ℕ
with_frame memory place bytes =
    put_mid (place * 123 + 1) (place * 123 + 123 - (place * 123 + 1)) (set memory (place * 123) 0) bytes

length_with_frame : (memory : List ℕ) (place : ℕ) (bytes : List ℕ) → place < capacity memory → length bytes ≡ 122 → length (with_frame memory place bytes) ≡ length memory
length_with_frame memory place bytes below size =
    let fits = place_fits memory place below in search (rules, places)

pub only_frame :
    (memory : List ℕ) (place : ℕ) (bytes : List ℕ) → place < capacity memory → length bytes ≡ 122
    → OnlyAt place memory (with_frame memory place bytes)
only_frame memory place bytes below size =
    let fits = place_fits memory place below in
    let old = set memory (place * 123) 0 in
    let long : length old ≡ length memory = length-set memory (place * 123) 0 in
    let tagged = only_tag memory place 0 below in
    let from = place * 123 + 1 in
    let span = place * 123 + 123 - (place * 123 + 1) in
    record {
      before = take-put_mid_below from span old bytes (place * 123) (omega arith) (omega arith) ∙ tagged.before;
      behind = drop-put_mid from span old bytes (place * 123 + 123) (omega arith) (omega arith) (omega arith) ∙ tagged.behind;
      long = length_with_frame memory place bytes below size;
    }

pub frame_read :
    (memory : List ℕ) (place : ℕ) (bytes : List ℕ) → place < capacity memory → length bytes ≡ 122
    → slot_at (with_frame memory place bytes) place ≡ Frame (record { bytes = bytes })
frame_read memory place bytes below size =
    let fits = place_fits memory place below in
    let old = set memory (place * 123) 0 in
    let new = with_frame memory place bytes in
    let long : length old ≡ length memory = length-set memory (place * 123) 0 in
    let from = place * 123 + 1 in
    let span = place * 123 + 123 - (place * 123 + 1) in
    let front : take from new ≡ take from old = take-put_mid_below from span old bytes from (omega arith) (omega arith) in
    let tag : get_or new (place * 123) 0 ≡ 0 =
    sym (get_or-take from new (place * 123) 0 (omega arith))
    ∙ ap (λ (l : List ℕ). get_or l (place * 123) 0) front
    ∙ get_or-take from old (place * 123) 0 (omega arith)
    ∙ tag_read memory place 0 below in
    let body : take span (drop from new) ≡ bytes = between-put_mid from span old bytes (place * 123 + 123) (omega arith) (omega arith) in
    let whole : 122 ≡ span = omega arith in
    ap₂ slot_of tag (ap (λ (n : ℕ). take n (drop from new)) whole ∙ body)

-- the frame at a place, as it is copied out
pub body_size : (place : ℕ) → place * 123 + 123 - (place * 123 + 1) ≡ 122
body_size place = omega arith
