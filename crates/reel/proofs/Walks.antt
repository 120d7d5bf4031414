-- Walking over the blocks of a reel is reading it.
use Rattle.std.proofs.Common.{◌≡◌, ℕ, ◌+◌, List, ◌++◌, length, take, drop, Some, None, Ok, Err, sym, ap, ◌∙◌, ap₂, arith}
use Rattle.std.proofs.lemmas.List.{drop-drop}
use Rattle.reel.specs.declared.block.Block.{Block}
use Rattle.reel.specs.declared.blocks.Blocks.{Blocks}
use Rattle.reel.specs.declared.fault.ReelFault.{ReelFault}
use Rattle.reel.specs.Bits.{bits}
use Rattle.reel.specs.Block.{Superframe, block_of, size, map_part, dealt, block_size, superframe}
use Rattle.reel.specs.Parts.{number, held, Parts, Written}
use Rattle.reel.specs.Reel.{before, stopped, reading_from}
use Rattle.reel.specs.Walking.{ahead, Next, Reads}
use Rattle.reel.proofs.Readings.{reading_none, reading_block, reading_stops}

-- what a lawful block holds, by its parts
pub held_is : (bytes : List ℕ) (place : ℕ) (b : Block) → Parts bytes place b → held b ≡ superframe bytes
held_is bytes place b parts =
    ap₂ (λ (n : ℕ) (m : List ℕ). dealt (take n (bits m)) b.frames.now) parts.size parts.map
    ∙ ap (λ (f : List ℕ). dealt (take (size bytes) (bits (map_part bytes))) f) parts.frames

-- walking over the blocks is reading the reel
pub end_reads : (s t : Blocks) → Next s None t → Reads s None t
end_reads s t step = reading_none (s.passed + 1) (ahead s) (ap length step.0)

pub block_reads : (s : Blocks) (b : Block) (t : Blocks) → Next s (Some (Ok b)) t → Written (ahead s) → Reads s (Some (Ok b)) t
block_reads s b t step written =
    let holds = held_is (ahead s) (s.passed + 1) b step.2 in
    let far : s.passed + 1 + block_size (ahead s) ≡ s.passed + block_size (ahead s) + 1 = omega arith in
    let passes : drop (block_size (ahead s)) (ahead s) ≡ ahead t = drop-drop (block_size (ahead s)) s.passed s.reel.now ∙ ap ahead (sym step.3) in (
      rw holds written.fits,
      written.again ∙ ap₂ (λ (x : Superframe) (xs : List ℕ). block_of x ++ xs) (sym holds) passes,
      reading_block (s.passed + 1) (ahead s) step.0 step.1
          ∙ ap₂ before (sym holds)
          (ap (λ (p : ℕ). reading_from 0 p (drop (block_size (ahead s)) (ahead s))) far
          ∙ ap (λ (xs : List ℕ). reading_from 0 (s.passed + block_size (ahead s) + 1) xs) passes
          ∙ ap (λ (n : ℕ). reading_from 0 (n + 1) (ahead t)) (sym (ap (λ (u : Blocks). u.passed) step.3))),
    )

pub fault_reads : (s : Blocks) (f : ReelFault) (t : Blocks) → Next s (Some (Err f)) t → Reads s (Some (Err f)) t
fault_reads s f t step =
    reading_stops (s.passed + 1) (number f.fault) (ahead s) step.0 step.1
    ∙ ap (λ (p : ℕ). stopped (number f.fault) p) (sym step.2)
