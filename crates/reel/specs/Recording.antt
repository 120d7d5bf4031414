-- Walking over the frames and gaps of a block.
use Rattle.std.specs.Prelude.{◌≡◌, [], ◌∷◌, take, drop, Some, None, Option}
use Rattle.reel.specs.declared.slots.Recorded.{Recorded}
use Rattle.reel.specs.declared.slots.Recorded.TheVariants.{Frame, Gap}
use Rattle.reel.specs.declared.slots.Slots.{Slots}
use Rattle.reel.specs.Bits.{bits}
use Rattle.reel.specs.Block.{Superframe, dealt}

-- the frames and gaps that are still to come
abbrev pub to_come : Slots → Superframe
to_come s = dealt (drop s.passed (take s.size (bits s.map.now))) s.frames.now

-- one step: nothing where nothing is to come, and then nothing changes; else the first of what is to come
abbrev pub Comes : Slots → Option Recorded → Slots → Type 0
Comes s None t = (to_come s ≡ []) × (t ≡ s)
Comes s (Some (Frame f)) t = to_come s ≡ Some f.now ∷ to_come t
Comes s (Some Gap) t = to_come s ≡ None ∷ to_come t
