-- The services that a word can name. Assumes nothing.
use Rattle.std.specs.Prelude.{◌≡◌, ℕ, List, Some, None, codes, Option}
use Rattle.service.specs.Reading.{reading}
use Rattle.service.specs.Serving.{refusal_in}
use Rattle.service.specs.declared.choice.ServiceChoice.{ServiceChoice}
use Rattle.service.specs.declared.choice.ServiceChoice.TheVariants.{Plain, Sync}

abbrev pub word_of_service : ServiceChoice → List ℕ
word_of_service Plain = codes "plain"
word_of_service Sync = codes "sync"

-- what a word names: the service whose word it is, and nothing where it is the word of none
abbrev pub NamesService : List ℕ → Option ServiceChoice → Type 0
NamesService word (Some service) = word ≡ word_of_service service
NamesService word None = (service : ServiceChoice) → ¬ (word ≡ word_of_service service)

-- the number under which the service refuses a packet, or nothing
abbrev pub refuses_by : ServiceChoice → List ℕ → Option ℕ
refuses_by Plain packet = None
refuses_by Sync packet = refusal_in (reading packet)
