-- The meaning of a fade over a channel, whose own meaning is `slots`, `space`, `made` and `tied`.
use Rattle.std.specs.Prelude.{◌≡◌, ℕ, ◌*◌, ◌%◌, ◌⊎◌, List, length, Some, None, Option, Result}
use Rattle.std.specs.Option.{option_map}
use Rattle.framing.specs.declared.slot.Slot.{Slot}
use Rattle.framing.specs.declared.slot.Slot.TheVariants.{Gap}
use Rattle.channel.specs.declared.channel.Full.{Full}
use Rattle.channel.specs.declared.pattern.FadePattern.{FadePattern}
use Rattle.channel.specs.declared.fade.Fade.{Fade}
use Rattle.channel.specs.Answers.{PutAnswer, TakeAnswer}
use Rattle.channel.specs.Patterns.{shown, through, number_after, faded}
use Rattle.channel.specs.Sending.{Put}

-- the slots that wait: those below as they come through
abbrev pub fade_slots : {C : Type 0} → (C → List Slot) → Fade C → List Slot
fade_slots slots f = faded (shown f.pattern) f.number (slots f.channel)

-- the room is the room below
abbrev pub fade_space : {C : Type 0} → (C → ℕ) → Fade C → ℕ
fade_space space f = space f.channel

-- a frame becomes a gap, or what the channel below may make of it
abbrev pub Fades : (List ℕ → Slot → Type 0) → List ℕ → Slot → Type 0
Fades made frame s = (s ≡ Gap) ⊎ made frame s

abbrev pub FadeTied : {C : Type 0} → (C → Type 0) → Fade C → Type 0
FadeTied tied f = tied f.channel

-- two numbers to which one bit of the pattern belongs
abbrev pub SameBit : FadePattern → ℕ → ℕ → Type 0
SameBit p i j = i % (8 * length (shown p)) ≡ j % (8 * length (shown p))

-- a put goes to the channel below, and changes nothing else
pub record PutBelow
    {C : Type 0} (slots : C → List Slot) (space : C → ℕ) (made : List ℕ → Slot → Type 0) (tied : C → Type 0)
    (put : Put) (answer : Result (Unit {0}) Full) (old new : Fade C) : Type 0 where
  pub below : PutAnswer slots space made tied put answer old.channel new.channel
  pub pattern : new.pattern ≡ old.pattern
  pub number : new.number ≡ old.number

abbrev pub number_after_take : ℕ → Option Slot → ℕ
number_after_take k None = k
number_after_take k (Some s) = number_after k s

-- what comes of a take is what comes through of the slot that was taken below, and the numbering goes on
pub record TakeBelow
    {C : Type 0} (slots : C → List Slot) (space : C → ℕ) (tied : C → Type 0) (answer : Option Slot) (old new : Fade C) : Type 0 where
  pub taken : Option Slot
  pub below : TakeAnswer slots space tied taken old.channel new.channel
  pub gives : answer ≡ option_map (through (shown old.pattern) old.number) taken
  pub pattern : new.pattern ≡ old.pattern
  pub number : SameBit old.pattern new.number (number_after_take old.number taken)
