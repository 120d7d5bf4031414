-- What examining a reel comes to.
use Rattle.std.specs.Prelude.{◌≡◌, ℕ, ◌-◌, List, take, Some, None, Ok, Err, Result}
use Rattle.reel.specs.Reel.{reading}
use Rattle.reel.specs.Parts.{number}
use Rattle.reel.specs.Counting.{Counts}
use Rattle.reel.specs.declared.counting.Contents.{Contents}
use Rattle.console.specs.declared.verify.Unlawful.{Unlawful}

-- A reel that is lawful, counted.
abbrev pub Counted : List ℕ → Contents → Type 0
Counted reel contents = ((reading reel).stop ≡ None) × Counts (reading reel).superframes contents

-- A lawful reel is counted whole; of another the fault is told, and what stands before the faulty block, which is lawful, is counted.
abbrev pub Examined : List ℕ → Result Contents Unlawful → Type 0
Examined reel (Ok contents) = Counted reel contents
Examined reel (Err unlawful) =
    ((reading reel).stop ≡ Some (number unlawful.fault.fault, unlawful.fault.at)) × Counted (take (unlawful.fault.at - 1) reel) unlawful.before
