use Rattle.std.proofs.Common.{◌≡◌, ℕ, ◌+◌, ◌<◌, List, length, drop, Some, None, Ok, Err, refl, ap, ◌∙◌, subst, subst₂, arith}
use Rattle.std.proofs.lemmas.List.{drop_all, take_rest, length-drop}
use Rattle.reel.specs.declared.fault.ReelFault.{ReelFault}
use Rattle.reel.specs.Bits.{size_of_map}
use Rattle.reel.specs.Block.{size, frames_size, block_size}
use Rattle.reel.specs.Parts.{Read}
use Rattle.reel.specs.Walking.{Next, moved}
use Rattle.reel.proofs.Questions.{lawful, within}
use Rattle.reel.proofs.Walks.{end_reads, block_reads, fault_reads}
use Rattle.reel.proofs.blocks.BlocksIterator.next.Goals as goal

pub returns-then-self-clause-steps : goal.returns-then-self-clause-steps
returns-then-self-clause-steps c =
    let s = c.args.self.now in
    let step : Next s None s = (drop_all s.passed s.reel.now (omega arith), refl) in
    (step, end_reads s s step)

pub returns-in-Ok-clause-steps : goal.returns-in-Ok-clause-steps
returns-in-Ok-clause-steps c =
    let s = c.args.self.now in
    let b = c.in-Ok.block in
    let rest = drop s.passed s.reel.now in
    let some : 0 < length rest = simp length-drop (omega arith) in
    let read = subst₂ (λ (bytes : List ℕ) (at : ℕ). Read bytes at (Ok b)) (take_rest s.reel.now s.passed) c.place-at.ensures c.in-Ok.ensures in
    let parts = within rest (lawful rest read.0) in
    let map_long : length b.map.now ≡ size_of_map (size rest) = ap length read.1.map ∙ parts.map in
    let frames_long : length b.frames.now ≡ frames_size rest = ap length read.1.frames ∙ parts.frames in
    let far : s.passed + c.bytes_taken.result ≡ s.passed + block_size rest = omega (arith, c.bytes_taken.ensures) in
    let t = moved s (s.passed + c.bytes_taken.result) in
    let step : Next s (Some (Ok b)) t = (some, read.0, read.1, ap (moved s) far) in
    (step, block_reads s b t step read.2)

pub returns-in-Err-clause-steps : goal.returns-in-Err-clause-steps
returns-in-Err-clause-steps c =
    let s = c.args.self.now in
    let f : ReelFault = record { fault = c.in-Err.fault; at = c.place-at.result } in
    let rest = drop s.passed s.reel.now in
    let some : 0 < length rest = simp length-drop (omega arith) in
    let read = subst (λ (bytes : List ℕ). Read bytes f.at (Err f.fault)) (take_rest s.reel.now s.passed) c.in-Err.ensures in
    let t = moved s (length s.reel.now) in
    let step : Next s (Some (Err f)) t = (some, read, c.place-at.ensures, refl) in
    (step, fault_reads s f t step)
