-- Laws of counting what a reel holds.
use Rattle.std.proofs.Common.{◌≡◌, ℕ, ◌+◌, ◌*◌, ◌/◌, ◌≤◌, Bool, true, false, List, [], ◌∷◌, length, drop, Some, None, Ok, sym, refl, ap, ◌∙◌, arith}
use Rattle.std.proofs.lemmas.List.{length-drop}
use Rattle.reel.specs.declared.block.Block.{Block}
use Rattle.reel.specs.declared.blocks.Blocks.{Blocks}
use Rattle.reel.specs.declared.counting.Contents.{Contents}
use Rattle.reel.specs.Bits.{bits, count_of_set_bits}
use Rattle.reel.specs.Block.{Superframe, size, map_part, frames_size, frames_part, block_size, dealt, refusal}
use Rattle.reel.specs.Counting.{frame_count, gap_count, total, one_more}
use Rattle.reel.specs.Parts.{held, Parts}
use Rattle.reel.specs.Reel.{Reading, reading}
use Rattle.reel.specs.Walking.{ahead, to_read, Next, Reads}
use Rattle.reel.proofs.Dealing.{length_dealt}
use Rattle.reel.proofs.Questions.{lawful, within}
use Rattle.reel.proofs.Walks.{held_is}
use Rattle.reel.proofs.Writing.{shown, shown_count, shown_long}

frames_counted : (xs : List Bool) (bytes : List ℕ) → frame_count (dealt xs bytes) ≡ count_of_set_bits xs
frames_counted [] bytes = refl
frames_counted (true ∷ xs) bytes = let more = frames_counted xs (drop 122 bytes) in omega arith
frames_counted (false ∷ xs) bytes = let more = frames_counted xs bytes in omega arith

both_counted : (s : Superframe) → frame_count s + gap_count s ≡ length s
both_counted [] = refl
both_counted (Some f ∷ s) = let more = both_counted s in omega arith
both_counted (None ∷ s) = let more = both_counted s in omega arith

-- the count so far, and what is still to be read
pub record Counted (reel : List ℕ) (s : Blocks) (c : Contents) : Type 0 where
  pub stop : (to_read s).stop ≡ (reading reel).stop
  pub superframes_so_far : c.superframes + length (to_read s).superframes ≡ length (reading reel).superframes
  pub frames_so_far : c.frames + total frame_count (to_read s).superframes ≡ total frame_count (reading reel).superframes
  pub gaps_so_far : c.gaps + total gap_count (to_read s).superframes ≡ total gap_count (reading reel).superframes
  pub over : s.reel.now ≡ reel
  pub within_reel : s.passed ≤ length reel
  pub few_superframes : c.superframes ≤ s.passed
  pub few_frames : c.frames ≤ s.passed
  pub few_gaps : c.gaps ≤ 8 * s.passed

-- one block: its frames and gaps by its parts
pub record One (b : Block) (long : ℕ) : Type 0 where
  pub there : length b.frames.now / 122 ≡ frame_count (held b)
  pub both : frame_count (held b) + gap_count (held b) ≡ b.size
  pub frames_fit : frame_count (held b) ≤ long
  pub gaps_fit : gap_count (held b) ≤ 8 * long
  pub few_slots : b.size ≤ 200

pub one_block : (bytes : List ℕ) (place : ℕ) (b : Block) → refusal bytes ≡ None → Parts bytes place b → One b (block_size bytes)
one_block bytes place b fine parts =
    let holds = held_is bytes place b parts in
    let all = within bytes (lawful bytes fine) in
    let frames_long : length b.frames.now ≡ frames_size bytes = ap length parts.frames ∙ all.frames in
    let count : frame_count (held b) ≡ count_of_set_bits (bits (map_part bytes)) = ap frame_count holds ∙ frames_counted (shown bytes) (frames_part bytes) ∙ shown_count bytes fine in
    let long : length (held b) ≡ size bytes = ap (λ (s : Superframe). length s) holds ∙ length_dealt (shown bytes) (frames_part bytes) ∙ shown_long bytes fine in
    let two = both_counted (held b) in
    record {
      there = omega arith;
      both = omega (arith, parts.size);
      frames_fit = omega arith;
      gaps_fit = omega arith;
      few_slots = omega (arith, parts.size, (lawful bytes fine).sized);
    }

-- one block more is counted
pub counted_more : (reel : List ℕ) (s : Blocks) (c : Contents) (b : Block) (t : Blocks) → Counted reel s c
    → Next s (Some (Ok b)) t → Reads s (Some (Ok b)) t → Counted reel t (one_more c b.size (length b.frames.now / 122))
counted_more reel s c b t so step reads =
    let one = one_block (ahead s) (s.passed + 1) b step.1 step.2 in
    let tail = reads.2 in
    let whole = (within (ahead s) (lawful (ahead s) step.1)).whole in
    let rest = length-drop s.passed s.reel.now in
    let same = ap length so.over in
    let moves = ap (λ (u : Blocks). u.passed) step.3 in
    let first = ap (λ (r : Reading). length r.superframes) tail in
    let second = ap (λ (r : Reading). total frame_count r.superframes) tail in
    let third = ap (λ (r : Reading). total gap_count r.superframes) tail in
    record {
      stop = sym (ap (λ (r : Reading). r.stop) tail) ∙ so.stop;
      superframes_so_far = omega (arith, so);
      frames_so_far = omega (arith, so, one);
      gaps_so_far = omega (arith, so, one);
      over = ap (λ (u : Blocks). u.reel.now) step.3 ∙ so.over;
      within_reel = omega (arith, so);
      few_superframes = omega (arith, so);
      few_frames = omega (arith, so, one);
      few_gaps = omega (arith, so, one);
    }
