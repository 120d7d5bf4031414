use Rattle.std.proofs.Common.{◌≡◌, ℕ, ◌+◌, ◌/◌, ◌<◌, ◌≤◌, Bool, true, false, List, [], ◌∷◌, length, take, drop, Some, sym, refl, ap, ◌∙◌, ap₂, inr, arith, rules}
use Rattle.std.proofs.lemmas.Grind.{common_steps}
use Rattle.reel.specs.Bits.{bits, bit_at}
use Rattle.reel.specs.Block.{Superframe, dealt}
use Rattle.reel.specs.Recording.{to_come}
use Rattle.reel.proofs.Bits.{no_bit}
use Rattle.reel.proofs.Dealing.{deals_gap, deals_frame, first_frame}
use Rattle.reel.proofs.slots.SlotsIterator.next.Goals as goal
use Rattle.std.proofs.iter.Next.{firm}

pub returns-in_err-is_there-clause-steps : goal.returns-in_err-is_there-clause-steps
returns-in_err-is_there-clause-steps c =
    let s = c.args.self.now in
    let past : length s.map.now ≤ s.passed / 8 = grind (arith, common_steps) in
    let none : to_come s ≡ [] = ap (λ (xs : List Bool). dealt xs s.frames.now) (no_bit s.map.now s.size s.passed (inr past)) in
    grind (arith, common_steps)

pub returns-then-not-is_there : goal.returns-then-not-is_there
returns-then-not-is_there c =
    let s = c.args.self.now in
    let inside : s.passed / 8 < length s.map.now = grind (arith, common_steps) in
    let clear : bit_at s.map.now s.passed ≡ false = grind (arith, common_steps) in
    let steps = deals_gap s.map.now s.size s.passed s.frames.now (omega arith) inside clear in
    record { steps = steps; goes = firm ((tt, tt, omega (arith, ap (λ (x : Superframe). length x) steps))) (λ h. search rules) }

pub returns : goal.returns
returns c =
    let s = c.args.self.now in
    let inside : s.passed / 8 < length s.map.now = grind (arith, common_steps) in
    let set : bit_at s.map.now s.passed ≡ true = grind (arith, common_steps) in
    let parts = first_frame s.frames.now _ c.split_at_checked.result refl refl c.split_at_checked.ensures.cases in
    let front : c.unwrap_or.result.0.now ≡ take 122 s.frames.now = rw c.unwrap_or.ensures parts.0 in
    let back : c.unwrap_or.result.1.now ≡ drop 122 s.frames.now = rw c.unwrap_or.ensures parts.1 in
    let steps =
    deals_frame s.map.now s.size s.passed s.frames.now (omega arith) inside set
    ∙ ap₂ (λ (f r : List ℕ). Some f ∷ dealt (drop (s.passed + 1) (take s.size (bits s.map.now))) r) (sym front) (sym back) in
    record { steps = steps; goes = firm ((tt, tt, omega (arith, ap (λ (x : Superframe). length x) steps))) (λ h. search rules) }
