-- Runs that the law turns down, each as a wrong program would go, and one that it allows. There is no checksum; the reach,
-- of which the law speaks, is given with each.
use Rattle.std.specs.Prelude.{ℕ, Bool, List, [], ◌∷◌, ◌++◌, map, replicate, None}
use Rattle.framing.specs.declared.slot.Slot.{Slot}
use Rattle.framing.specs.declared.slot.Slot.TheVariants.{Frame}
use Rattle.channel.specs.Sending.{Sent, sent_frame, sent_mark, became}
use Rattle.receiver.specs.Answering.{Answer, handed_out, mark, nothing, sound, damaged}
use Rattle.runlaw.specs.History.{Call, opening, offer, closing, reading, done, answers, Event, History}
use Rattle.runlaw.specs.Law.{RunLaw}
use Rattle.runlaw.specs.Theorem.{Shown}
use Rattle.runlaw.specs.Examples.{comes, goes, put, in_one, in_two, of_121}

abbrev pub Allows : (fasb : Bool) (reach : ℕ) → History → Type 0
Allows fasb reach h = RunLaw fasb 0 reach (λ p. []) h

-- all that a flow over a service that admits everything has to show for it
abbrev pub CanBeShown : (fasb : Bool) (reach : ℕ) → History → Type 0
CanBeShown fasb reach h = Shown fasb 0 reach (λ p. []) (λ p. None) h

abbrev pub TurnsDown : (fasb : Bool) (reach : ℕ) → History → Type 0
TurnsDown fasb reach h = Allows fasb reach h → ⊥

-- a call that was done, and what it sent
abbrev pub did : Call → List Sent → Event
did c s = record { call = c; reply = done; sent = s; taken = [] }

-- a reading that took these slots and answered so
abbrev pub read : List Slot → Answer → Event
read slots a = record { call = reading; reply = answers a; sent = []; taken = slots }

-- an opening, an offer of each packet, and a closing that sends all
abbrev pub wrote : List (List ℕ) → List Sent → History
wrote packets s = did (opening 2) [] ∷ (map (λ p. did (offer p) []) packets ++ (did closing s ∷ []))

-- frames with one packet of one byte, with two, and with none
abbrev pub one : ℕ → List ℕ
one a = 0x81 ∷ a ∷ 0x7F ∷ replicate 119 0

abbrev pub two : ℕ → ℕ → List ℕ
two a b = 0x81 ∷ a ∷ 0x81 ∷ b ∷ 0x7F ∷ replicate 117 0

abbrev pub none : List ℕ
none = 0x7F ∷ replicate 121 0

-- the mark at the end is put too
abbrev pub marked : Sent → List Sent
marked s = s ∷ sent_mark ∷ []

-- 1. The packet is handed out, then the mark, then nothing.

abbrev pub goes_well : History
goes_well =
    let s : List Sent = marked (put (one 1) comes) in
    wrote ((1 ∷ []) ∷ []) s ++ (read (map became s) (handed_out sound (1 ∷ [])) ∷ read [] (mark 0) ∷ read [] nothing ∷ [])

-- 2. Writers.

-- it keeps a packet back from the channel, to hand it to the reader itself
abbrev pub passes_round : History
passes_round = wrote ((1 ∷ []) ∷ []) (marked (put none comes))

-- it cuts its first offer only
abbrev pub cuts_first_only : History
cuts_first_only = wrote ((1 ∷ []) ∷ (2 ∷ []) ∷ []) (marked (put (one 1) comes))

-- it puts another frame than the one that it cut
abbrev pub puts_another : History
puts_another = wrote ((1 ∷ []) ∷ []) (marked (put (one 2) comes))

-- 3. Readers.

-- it always finds nothing
abbrev pub finds_nothing : History
finds_nothing =
    let s : List Sent = marked (put (one 1) comes) in
    wrote ((1 ∷ []) ∷ []) s ++ (read (map became s) nothing ∷ [])

-- it gives one packet a frame
abbrev pub gives_one_a_frame : History
gives_one_a_frame =
    let s : List Sent = marked (put (two 1 2) comes) in
    wrote ((1 ∷ []) ∷ (2 ∷ []) ∷ []) s ++ (read (map became s) (handed_out sound (1 ∷ [])) ∷ read [] (mark 0) ∷ read [] nothing ∷ [])

-- it calls all sound: one bit of the packet was changed on its way
abbrev pub calls_all_sound : History
calls_all_sound =
    let s : List Sent = marked (sent_frame (one 1) (Frame (record { bytes = one 3 }))) in
    wrote ((1 ∷ []) ∷ []) s ++ (read (map became s) (handed_out sound (3 ∷ [])) ∷ [])

-- it calls all damaged: nothing was changed
abbrev pub calls_all_damaged : History
calls_all_damaged =
    let s : List Sent = marked (put (one 1) comes) in
    wrote ((1 ∷ []) ∷ []) s ++ (read (map became s) (handed_out damaged (1 ∷ [])) ∷ [])

-- it hands out the packet that opens the frame after a gap; `s` is what was sent
abbrev pub trusts_a_frame : List Sent → History
trusts_a_frame s = wrote (replicate 121 1 ∷ of_121 ∷ []) s ++ (read (map became s) (handed_out sound of_121) ∷ [])

abbrev pub trusts_after_gap : History
trusts_after_gap = trusts_a_frame (in_one goes comes)

-- it takes a mark for a packet boundary, though packets may cross superframes
abbrev pub trusts_a_mark : History
trusts_a_mark = trusts_a_frame (in_two goes comes)
