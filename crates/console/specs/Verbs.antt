-- The words that the program knows.
use Rattle.std.specs.Prelude.{◌≡◌, ℕ, Bool, true, false, ◌⊎◌, List, Some, None, codes, Option, ◌≢◌}
use Rattle.console.specs.declared.verb.Verb.{Verb}
use Rattle.console.specs.declared.verb.Verb.TheVariants.{Catalogue, Extract, Map, Verify, Frames, Header, Play}
use Rattle.console.specs.declared.verb.Switch.{Switch}
use Rattle.console.specs.declared.verb.Switch.TheVariants.{Fasb, Checksum, Service, Json, Out, Progress, Help, Version}

-- the word for each command
abbrev pub verb_word : Verb → List ℕ
verb_word Catalogue = codes "catalogue"
verb_word Extract = codes "extract"
verb_word Map = codes "map"
verb_word Verify = codes "verify"
verb_word Frames = codes "frames"
verb_word Header = codes "header"
verb_word Play = codes "play"

-- the word for each option
abbrev pub switch_word : Switch → List ℕ
switch_word Fasb = codes "--fasb"
switch_word Checksum = codes "--checksum"
switch_word Service = codes "--service"
switch_word Json = codes "--json"
switch_word Out = codes "-o"
switch_word Progress = codes "--progress"
switch_word Help = codes "--help"
switch_word Version = codes "--version"

-- a word names the command whose word it is, and any other names none
abbrev pub VerbNamed : List ℕ → Option Verb → Type 0
VerbNamed word (Some verb) = word ≡ verb_word verb
VerbNamed word None = (verb : Verb) → word ≢ verb_word verb

-- an option has its word, and help has a short one besides
abbrev pub SwitchNamed : List ℕ → Option Switch → Type 0
SwitchNamed word (Some switch) = (word ≡ switch_word switch) ⊎ ((word ≡ codes "-h") × (switch ≡ Help))
SwitchNamed word None = ((switch : Switch) → word ≢ switch_word switch) × (word ≢ codes "-h")

-- the commands that say how a reel is to be read
abbrev pub reads : Verb → Bool
reads Catalogue = true
reads Extract = true
reads Map = true
reads Verify = false
reads Frames = false
reads Header = false
reads Play = false

abbrev pub is_catalogue : Verb → Bool
is_catalogue Catalogue = true
is_catalogue Extract = false
is_catalogue Map = false
is_catalogue Verify = false
is_catalogue Frames = false
is_catalogue Header = false
is_catalogue Play = false

abbrev pub is_map : Verb → Bool
is_map Catalogue = false
is_map Extract = false
is_map Map = true
is_map Verify = false
is_map Frames = false
is_map Header = false
is_map Play = false

-- the commands that a reel is for
abbrev pub has_reel : Verb → Bool
has_reel Catalogue = true
has_reel Extract = true
has_reel Map = true
has_reel Verify = true
has_reel Frames = true
has_reel Header = false
has_reel Play = false

-- which command takes which option
abbrev pub takes_switch : Verb → Switch → Bool
takes_switch verb Fasb = reads verb
takes_switch verb Checksum = reads verb
takes_switch verb Service = reads verb
takes_switch verb Json = is_catalogue verb
takes_switch verb Out = is_map verb
takes_switch verb Progress = has_reel verb
takes_switch verb Help = true
takes_switch verb Version = false
