-- What a step of an open superframe leaves of the room that is kept for it.
use Rattle.std.proofs.Common.{ℕ, ◌+◌, ◌≤◌, List, [], ◌∷◌, map, arith}
use Rattle.std.proofs.lemmas.List.{length-map, length-append}
use Rattle.framing.specs.declared.slot.Slot.{Slot}
use Rattle.channel.specs.Sending.{a_frame, a_mark, Went}
use Rattle.flow.specs.Cutting.{Cut, cut, paddings}
use Rattle.flow.specs.Sending.{Puts}
use Rattle.flow.specs.Writing.{State, cutting, closing}
use Rattle.flow.proofs.Cuts.{cut_count}
use Rattle.flow.proofs.Pads.{paddings_count}

module _ {C : Type 0} (slots : C → List Slot) (space : C → ℕ) (made : List ℕ → Slot → Type 0) (tied : C → Type 0) where
  -- a cutting goes into the frames that are left, and leaves room for the others and the mark
  pub record CutWent (c : Cut) (old new : C) : Type 0 where
    pub went : Went made (cutting c).puts (slots old) (space old) (slots new) (space new)
    pub still_tied : tied new
    pub room_kept : c.left + 1 ≤ space new

  pub cut_went : (k : ℕ) (begun bytes : List ℕ) (old new : C) → Puts slots space made tied (cutting (cut k begun bytes)).puts old new
      → tied old → k + 1 ≤ space old → CutWent (cut k begun bytes) old new
  cut_went k begun bytes old new puts safe room =
      let count = cut_count k begun bytes in
      let long = length-map (cut k begun bytes).full a_frame in
      let went = puts safe (omega arith) in
      let fell = went.0.fell in
      record { went = went.0; still_tied = went.1; room_kept = omega arith }

  -- the padding and the mark go into the room that was kept
  pub closing_went : (s : State) (old new : C) → Puts slots space made tied (closing s).puts old new
      → tied old → s.left + 1 ≤ space old
      → Went made (closing s).puts (slots old) (space old) (slots new) (space new) × tied new
  closing_went s old new puts safe room =
      let count = paddings_count s.left s.begun in
      let long = length-map (paddings s.left s.begun) a_frame in
      let all = length-append (map a_frame (paddings s.left s.begun)) (a_mark ∷ []) in
      puts safe (omega arith)
