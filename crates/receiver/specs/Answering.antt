-- What is answered for a packet that was gathered to its end.
use Rattle.std.specs.Prelude.{ℕ, ◌-◌, Bool, true, false, cond, ◌&&◌, List, [], ◌∷◌, length, take, drop, Some, None, Option, ◌==◌, nat_le}
use Rattle.receiver.specs.Reading.{Told, packet, torn_frame}
use Rattle.receiver.specs.Reading as tells

-- Sound; damaged, where the checksum does not fit; or foreign, where the service does not admit the packet, with the
-- service's number.
pub data Quality : Type 0 where
  sound : Quality
  damaged : Quality
  foreign : ℕ → Quality

-- An answer of a reading. A packet is handed out with its bytes, without the checksum, as received; it is short where it
-- has no more bytes than the checksum's width.
pub data Answer : Type 0 where
  handed_out : Quality → List ℕ → Answer
  short : Answer
  lost : (number dropped : ℕ) → Answer
  torn : (number dropped question place : ℕ) → Answer
  mark : (dropped : ℕ) → Answer
  nothing : Answer

-- whether two byte strings are the same
abbrev pub same : List ℕ → List ℕ → Bool
same [] [] = true
same [] (y ∷ ys) = false
same (x ∷ xs) [] = false
same (x ∷ xs) (y ∷ ys) = x == y && same xs ys

-- Damaged comes before foreign.
abbrev pub quality : (value : List ℕ → List ℕ) (refusal : List ℕ → Option ℕ) → (packet received : List ℕ) → Quality
quality value refusal p received =
    cond (same (value p) received) (elim (refusal p) [ None ↦ sound | Some n ↦ foreign n ]) damaged

-- The bytes of a packet and then of its checksum.
abbrev pub answered : (width : ℕ) (value : List ℕ → List ℕ) (refusal : List ℕ → Option ℕ) → List ℕ → Answer
answered width value refusal b =
    cond (nat_le (length b) width) short
    (handed_out (quality value refusal (take (length b - width) b) (drop (length b - width) b)) (take (length b - width) b))

abbrev pub answer_to : (width : ℕ) (value : List ℕ → List ℕ) (refusal : List ℕ → Option ℕ) → Option Told → Answer
answer_to width value refusal None = nothing
answer_to width value refusal (Some (packet b)) = answered width value refusal b
answer_to width value refusal (Some (tells.lost n d)) = lost n d
answer_to width value refusal (Some (torn_frame n d q p)) = torn n d q p
answer_to width value refusal (Some (tells.mark d)) = mark d
