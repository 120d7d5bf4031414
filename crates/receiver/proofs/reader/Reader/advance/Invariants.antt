use Rattle.std.proofs.Common.{◌≡◌, ◌-◌}
use Rattle.framing.specs.Fragments.{fragments_from}
use Rattle.receiver.specs.Reading.{first_completed}
use Rattle.receiver.specs.Views.{standing_of, Rests, Within}
use Rattle.receiver.proofs.reader.Reader.advance.Given as goal

-- What is left to read finds what the whole finds.
abbrev pub invariant-loop-next : goal.invariant-loop-next
invariant-loop-next l =
    (first_completed (standing_of l.self) (fragments_from l.self.frame.bytes l.at)
    ≡ first_completed (standing_of l.initial.self) (fragments_from l.initial.self.frame.bytes l.from))
    × Rests l.self.state l.at
    × Within 2048 (standing_of l.self) (fragments_from l.self.frame.bytes l.at)
    × (l.self.frame ≡ l.initial.self.frame)
    × (l.self.number ≡ l.initial.self.number)

abbrev pub decreases-loop-next : goal.decreases-loop-next
decreases-loop-next l = 122 - l.at
