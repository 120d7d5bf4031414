-- The questions put to a block, answered one after the other.
use Rattle.std.proofs.Common.{◌≡◌, ℕ, ◌≤◌, Bool, true, false, cond, List, length, drop, Some, None, Option, refl, ◌∙◌, arith}
use Rattle.std.proofs.lemmas.List.{length-take, length-drop}
use Rattle.std.proofs.lemmas.Bool.{and_parts, and_from, cond-true, le-leb, leb-true}
use Rattle.reel.specs.Bits.{bits, size_of_map, all_clear}
use Rattle.reel.specs.Block.{size, map_part, frames_size, frames_part, behind_map, block_size, has_size, has_map, has_frames, refusal}

-- the three questions, each answered yes
abbrev pub Sized : List ℕ → Type 0
Sized bytes = (1 ≤ size bytes) × (size bytes ≤ 200)

abbrev pub Mapped : List ℕ → Type 0
Mapped bytes = (size_of_map (size bytes) ≤ length (drop 1 bytes)) × (all_clear (drop (size bytes) (bits (map_part bytes))) ≡ true)

abbrev pub Framed : List ℕ → Type 0
Framed bytes = frames_size bytes ≤ length (behind_map bytes)

-- no question is answered no
pub record Lawful (bytes : List ℕ) : Type 0 where
  pub sized : Sized bytes
  pub mapped : Mapped bytes
  pub framed : Framed bytes

pub yes_size : (bytes : List ℕ) → Sized bytes → has_size bytes ≡ true
yes_size bytes h = and_from _ _ (le-leb _ _ h.0) (le-leb _ _ h.1)

pub yes_map : (bytes : List ℕ) → Mapped bytes → has_map bytes ≡ true
yes_map bytes h = and_from _ _ (le-leb _ _ h.0) h.1

pub yes_frames : (bytes : List ℕ) → Framed bytes → has_frames bytes ≡ true
yes_frames bytes h = le-leb _ _ h

pub past_size : (bytes : List ℕ) → Sized bytes → refusal bytes ≡ cond (has_map bytes) (cond (has_frames bytes) None (Some 23)) (Some 22)
past_size bytes h = cond-true _ _ _ (yes_size bytes h)

pub past_map : (bytes : List ℕ) → Sized bytes → Mapped bytes → refusal bytes ≡ cond (has_frames bytes) None (Some 23)
past_map bytes h m = past_size bytes h ∙ cond-true _ _ _ (yes_map bytes m)

pub none_refused : (bytes : List ℕ) → Lawful bytes → refusal bytes ≡ None
none_refused bytes h = past_map bytes h.sized h.mapped ∙ cond-true _ _ _ (yes_frames bytes h.framed)

-- and where none is refused, each was answered yes
abbrev nothing : Option ℕ
nothing = None

three : (x y z : Bool) → cond x (cond y (cond z None (Some 23)) (Some 22)) (Some 21) ≡ nothing → (x ≡ true) × (y ≡ true) × (z ≡ true)
three true true true e = (refl, refl, refl)
three true true false e = let z : ◌≡◌ {A = ℕ} 0 1 = cc in absurd (omega arith)
three true false z e = let z : ◌≡◌ {A = ℕ} 0 1 = cc in absurd (omega arith)
three false y z e = let z : ◌≡◌ {A = ℕ} 0 1 = cc in absurd (omega arith)

pub lawful : (bytes : List ℕ) → refusal bytes ≡ None → Lawful bytes
lawful bytes e =
    let all = three (has_size bytes) (has_map bytes) (has_frames bytes) e in
    let n = and_parts _ _ all.0 in
    let m = and_parts _ _ all.1 in
    record {
      sized = (leb-true _ _ n.0, leb-true _ _ n.1);
      mapped = (leb-true _ _ m.0, m.1);
      framed = leb-true _ _ all.2;
    }

-- a lawful block has all its parts, and lies within the bytes
pub record Within (bytes : List ℕ) : Type 0 where
  pub map : length (map_part bytes) ≡ size_of_map (size bytes)
  pub frames : length (frames_part bytes) ≡ frames_size bytes
  pub whole : block_size bytes ≤ length bytes

pub within : (bytes : List ℕ) → Lawful bytes → Within bytes
within bytes h =
    let map_long = simp length-drop at h.mapped.0 in
    let frames_long = simp length-drop at h.framed in
    record {
      map = simp (length-take, length-drop) (omega arith);
      frames = simp (length-take, length-drop) (omega arith);
      whole = omega arith;
    }
