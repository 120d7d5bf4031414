-- What the lines of a script ask for.
use Rattle.std.specs.Prelude.{◌≡◌, ℕ, List, [], ◌∷◌, Some, None, Ok, Err, codes, Option, Result}
use Rattle.spelling.specs.declared.fault.LineFault.{LineFault}
use Rattle.script.specs.declared.step.Step.{Step}
use Rattle.script.specs.declared.step.Step.TheVariants.{Open, Offer, Close, Read, Drain, Room, Waits}
use Rattle.play.specs.declared.command.Command.{Command}
use Rattle.play.specs.declared.command.Request.{Request}
use Rattle.play.specs.declared.command.Request.TheVariants.{Checksum, Header, WriteHeader, Fragments, Reel, Fade}

-- the word that names a step of a flow
abbrev pub word_of_step : Step → List ℕ
word_of_step (Open frames) = codes "open"
word_of_step (Offer packet) = codes "offer"
word_of_step Close = codes "close"
word_of_step (Read buffer_len) = codes "read"
word_of_step Drain = codes "drain"
word_of_step Room = codes "room"
word_of_step Waits = codes "waits"

-- the word that names a command that needs no flow
abbrev pub word_of_request : Request → List ℕ
word_of_request (Checksum checksum message) = codes "checksum"
word_of_request (Header packet) = codes "header"
word_of_request (WriteHeader header payload buffer_len) = codes "write-header"
word_of_request (Fragments frame) = codes "fragments"
word_of_request (Reel reel) = codes "reel"
word_of_request (Fade pattern) = codes "fade"

-- the word that names a command
abbrev pub word_of : Command → List ℕ
word_of (Command.Request request) = word_of_request request
word_of (Command.Flow setup) = codes "flow"
word_of (Command.Step step) = word_of_step step

-- A line of these words asks for nothing: it is blank, or its first word begins with `#`.
abbrev pub AsksNothing : List (List ℕ) → Type 0
AsksNothing [] = Unit {0}
AsksNothing ([] ∷ ws) = ⊥
AsksNothing ((b ∷ bs) ∷ ws) = b ≡ 35

-- The first of these words names the command.
abbrev pub IsNamedFirst : Command → List (List ℕ) → Type 0
IsNamedFirst command [] = ⊥
IsNamedFirst command (w ∷ ws) = w ≡ word_of command

-- What a line of these words is read as: as nothing exactly where it asks for nothing, and as a command only where its first word
-- names that command.
abbrev pub ReadAs : List (List ℕ) → Result (Option Command) LineFault → Type 0
ReadAs ws (Ok None) = AsksNothing ws
ReadAs ws (Ok (Some command)) = IsNamedFirst command ws
ReadAs ws (Err fault) = ¬ AsksNothing ws
