-- A reel as a channel.
use Rattle.std.specs.Prelude.{◌≡◌, ℕ, ◌+◌, cond, List, [], ◌∷◌, ◌++◌, map, length, Some, None, Option, ◌==◌}
use Rattle.std.specs.Option.{option_map, IfNone}
use Rattle.std.specs.List.{flat_map}
use Rattle.framing.specs.declared.slot.Slot.{Slot}
use Rattle.framing.specs.declared.slot.Slot.TheVariants.{Gap, Mark}
use Rattle.reel.specs.declared.playing.ReelChannel.{ReelChannel}
use Rattle.reel.specs.declared.slots.Recorded.{Recorded}
use Rattle.reel.specs.declared.slots.Slots.{Slots}
use Rattle.reel.specs.Block.{Superframe, refusal}
use Rattle.reel.specs.Recording.{to_come}
use Rattle.reel.specs.Walking.{ahead, to_read}

-- what a superframe has for one frame, as a slot
abbrev pub slot_of : Option (List ℕ) → Slot
slot_of (Some f) = Slot.Frame (record { bytes = f })
slot_of None = Gap

-- superframes as slots: those of each, and a mark after each
abbrev pub with_marks : (Option (List ℕ) → Slot) → List Superframe → List Slot
with_marks slot = flat_map (λ s. map slot s ++ Mark ∷ [])

-- the slots of a reel
abbrev pub reel_slots : List Superframe → List Slot
reel_slots = with_marks slot_of

-- what a step over a block's frames and gaps gave
abbrev pub recorded_as : Recorded → Option (List ℕ)
recorded_as (Recorded.Frame f) = Some f.now
recorded_as Recorded.Gap = None

-- The same for what is in hand of a block, as a channel of any value gives it: what is no whole frame is a gap. Reels have whole frames only.
abbrev pub part_of : Option (List ℕ) → Slot
part_of (Some f) = cond (length f == 122) (slot_of (Some f)) Gap
part_of None = Gap

abbrev pub part_slots : List Superframe → List Slot
part_slots = with_marks part_of

-- of a block in hand, what is still to come of it, and its mark
abbrev pub in_hand : Option Slots → List Slot
in_hand (Some s) = map part_of (to_come s) ++ Mark ∷ []
in_hand None = []

-- the slots that wait: those of the block in hand, and then the slots of the lawful blocks behind it
abbrev pub waiting_slots : ReelChannel → List Slot
waiting_slots c = in_hand c.slots ++ part_slots (to_read c.blocks).superframes

-- where reading will stop
abbrev pub stops_at : ReelChannel → Option (ℕ × ℕ)
stops_at c = (to_read c.blocks).stop

-- the number and the place of the refusal, where the block behind the one in hand is not lawful
abbrev pub stops_here : ReelChannel → Option (ℕ × ℕ)
stops_here c = cond (length (ahead c.blocks) == 0) None (option_map (λ q. (q, c.blocks.passed + 1)) (refusal (ahead c.blocks)))

-- nothing can be put on a reel: it has no room, and makes nothing of a frame
abbrev pub no_space : ReelChannel → ℕ
no_space c = 0

abbrev pub NothingMade : List ℕ → Slot → Type 0
NothingMade f s = ⊥

-- a reel leans on nothing below it
abbrev pub Always : ReelChannel → Type 0
Always c = Unit {0}

-- A block is in hand now, or nothing waits, and then nothing changes.
pub record Opened (r : Option Slots) (old new : ReelChannel) : Type 0 where
  pub now_in_hand : new.slots ≡ r
  pub same : waiting_slots new ≡ waiting_slots old
  pub steady : stops_at new ≡ stops_at old
  pub else : IfNone r ((waiting_slots old ≡ []) × (new ≡ old))
