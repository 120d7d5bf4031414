-- What the arguments ask for.
use Rattle.std.specs.Prelude.{◌≡◌, ℕ, List, [], ◌∷◌, Some, None, Option, String, string_bytes}
use Rattle.console.specs.declared.command.Command.{Command}
use Rattle.console.specs.declared.command.Command.TheVariants.{Catalogue, Extract, Map, Verify, Frames, Header, Play, Help, Version}
use Rattle.console.specs.declared.verb.Verb.{Verb}
use Rattle.console.specs.declared.verb.Verb.TheVariants.{Catalogue as catalogue, Extract as extract, Map as map, Verify as verify, Frames as frames, Header as header, Play as play}
use Rattle.console.specs.Verbs.{verb_word}

-- the command that is to be run; help and the version run none
abbrev pub runs : Command → Option Verb
runs (Catalogue reel settings json progress) = Some catalogue
runs (Extract reel directory settings progress) = Some extract
runs (Map reel picture settings progress) = Some map
runs (Verify reel) = Some verify
runs (Frames reel progress) = Some frames
runs (Header digits) = Some header
runs (Play script) = Some play
runs (Help topic) = None
runs Version = None

-- what is run, if anything, is this command
abbrev pub RunsOnly : Verb → Option Verb → Type 0
RunsOnly verb None = Unit {0}
RunsOnly verb (Some other) = other ≡ verb

-- what is run, if anything, is the command that this word names
abbrev pub NamedBy : List ℕ → Option Verb → Type 0
NamedBy word None = Unit {0}
NamedBy word (Some verb) = word ≡ verb_word verb

-- what is run, if anything, is the command that the first of these words names; without a word nothing is
abbrev pub NamedFirst : {A : Type 0} → List (String A) → Option Verb → Type 0
NamedFirst [] run = run ≡ None
NamedFirst (word ∷ rest) run = NamedBy (string_bytes word) run
