-- The run law: a statement about histories.
use Rattle.std.specs.Prelude.{◌≡◌, ℕ, ◌+◌, ◌-◌, ◌≤◌, Bool, cond, ◌≢◌, List, [], ◌∷◌, ◌++◌, map, length, take}
use Rattle.std.specs.List.{AllByRecursion}
use Rattle.channel.specs.Sending.{became}
use Rattle.checksum.specs.Stretch.{bits, ChangedInOneStretch}
use Rattle.receiver.specs.Answering.{sound, Answer, handed_out, short, lost, torn, mark, nothing}
use Rattle.runlaw.specs.History.{History, closing, reading, done, answers, all_sent, packets_accepted, answers_given, HandedOut, packets_handed_out, lost_answers, EndsWith}
use Rattle.runlaw.specs.Packets.{Piece, groups, unfinished, as_cut, as_received, clear, gaps}
use Rattle.runlaw.specs.Fair.{Fair}

-- 1. Packets are carried.

-- x is a first part of y
pub record FirstPart {A : Type 0} (x y : List A) : Type 0 where
  pub rest : List A
  pub whole : y ≡ x ++ rest

-- what is put of a packet that is not all put is a first part of the first that waits
abbrev pub FirstOfWaiting : List ℕ → List (List ℕ) → Type 0
FirstOfWaiting put [] = put ≡ []
FirstOfWaiting put (p ∷ more) = FirstPart put p

-- The frames put carry the accepted packets in the order offered, each followed by its checksum: of these, those that are
-- all put come first, group by group, and then those that wait to be, of which one may have begun. That is so in every
-- run over a channel that began empty, fair or not. A closing leaves none waiting, but for the one packet that may cross superframes.
pub record CarriesPackets (fasb : Bool) (value : List ℕ → List ℕ) (h : History) : Type 0 where
  pub waiting : List (List ℕ)
  pub carried : map (λ p. p ++ value p) (packets_accepted h) ≡ map as_cut (groups fasb [] (all_sent h)) ++ waiting
  pub begun : FirstOfWaiting (as_cut (unfinished fasb [] (all_sent h))) waiting
  pub settled : EndsWith closing done h → length waiting ≤ cond fasb 1 0

-- 2. Clear packets are handed out, and judged rightly.

-- What was handed out is this packet, at its own length, with its bytes as received; its checksum is left off.
pub record IsPacket (width : ℕ) (out : HandedOut) (packet : List Piece) : Type 0 where
  pub own_length : length out.bytes + width ≡ length (as_cut packet)
  pub as_it_came : out.bytes ≡ take (length (as_cut packet) - width) (as_received packet)

-- An unchanged packet is sound; one that was changed, with its checksum, only within one stretch no longer than the
-- checksum's reach is not.
pub record JudgedRightly (reach : ℕ) (out : HandedOut) (packet : List Piece) : Type 0 where
  pub unchanged_is_sound : as_received packet ≡ as_cut packet → out.quality ≡ sound
  pub burst_is_not_sound : ChangedInOneStretch reach (bits (as_cut packet)) (bits (as_received packet)) → out.quality ≢ sound

abbrev pub HandedOutRightly : (width reach : ℕ) → HandedOut → List Piece → Type 0
HandedOutRightly width reach out packet = IsPacket width out packet × JudgedRightly reach out packet

-- two lists are of one length, and what stands in the same turn belongs together
abbrev pub InTurn : {A B : Type 0} → (A → B → Type 0) → List A → List B → Type 0
InTurn R [] [] = Unit {0}
InTurn R [] (b ∷ bs) = ⊥
InTurn R (a ∷ more) [] = ⊥
InTurn R (a ∷ more) (b ∷ bs) = R a b × InTurn R more bs

-- neither a torn frame nor a short packet
abbrev pub NoFault : Answer → Type 0
NoFault (handed_out q b) = Unit {0}
NoFault short = ⊥
NoFault (lost n d) = Unit {0}
NoFault (torn n d q p) = ⊥
NoFault (mark d) = Unit {0}
NoFault nothing = Unit {0}

-- In order: what was handed out is, packet by packet in turn, a first part of the clear packets. Complete: right after a
-- reading that answers nothing, no clear packet is held back, and the lost answers are as many as the gaps. And there is no
-- false alarm: never are there more lost answers than gaps, and no frame is torn and no packet short.
pub record HandsOutClearPackets (fasb : Bool) (width reach : ℕ) (h : History) : Type 0 where
  pub given : List (List Piece)
  pub held_back : List (List Piece)
  pub in_order : clear fasb [] (all_sent h) ≡ given ++ held_back
  pub each : InTurn (HandedOutRightly width reach) (packets_handed_out h) given
  pub complete : EndsWith reading (answers nothing) h → (held_back ≡ []) × (lost_answers h ≡ gaps (map became (all_sent h)))
  pub no_false_loss : lost_answers h ≤ gaps (map became (all_sent h))
  pub no_fault : AllByRecursion NoFault (answers_given h)

-- 3. The law. (Nothing stands before the beginning: hence `[]` above.)

pub record RunLaw (fasb : Bool) (width reach : ℕ) (value : List ℕ → List ℕ) (h : History) : Type 0 where
  pub carries : CarriesPackets fasb value h
  pub hands_out : Fair (all_sent h) → HandsOutClearPackets fasb width reach h
