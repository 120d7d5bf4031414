-- The theorems below the law: what a reader makes of what a writer put.
use Rattle.std.specs.Prelude.{◌≡◌, ℕ, ◌≤◌, Bool, cond, List, [], ◌∷◌, ◌++◌, map, length, Some, None, Option}
use Rattle.std.specs.List.{flat_map, AllByRecursion}
use Rattle.framing.specs.declared.slot.Slot.{Slot}
use Rattle.channel.specs.Sending.{Sent, became}
use Rattle.checksum.specs.Detection.{Detects}
use Rattle.receiver.specs.Reading.{Standing, aligned, seeking, Told, packet, lost, torn_frame, mark, told_of}
use Rattle.receiver.specs.Answering.{Answer, answer_to, nothing}
use Rattle.runlaw.specs.History.{History, reading, answers, all_sent, packets_accepted, answers_given, EndsWith}
use Rattle.runlaw.specs.Packets.{known_start, as_received, clear, gaps}
use Rattle.runlaw.specs.Fair.{Fair}
use Rattle.runlaw.specs.Writing.{Written}
use Rattle.runlaw.specs.Law.{CarriesPackets, RunLaw}

-- 1. What a reader tells of all slots.

abbrev pub packet_in : Told → List (List ℕ)
packet_in (packet b) = b ∷ []
packet_in (lost n d) = []
packet_in (torn_frame n d q p) = []
packet_in (mark d) = []

abbrev pub loss_in : Told → List (Unit {0})
loss_in (packet b) = []
loss_in (lost n d) = tt ∷ []
loss_in (torn_frame n d q p) = []
loss_in (mark d) = []

abbrev pub torn_in : Told → List (Unit {0})
torn_in (packet b) = []
torn_in (lost n d) = []
torn_in (torn_frame n d q p) = tt ∷ []
torn_in (mark d) = []

-- These packets, in order, so many lost frames, and no torn one.
pub record Tells (told : List Told) (packets : List (List ℕ)) (losses : ℕ) : Type 0 where
  pub packets_are : flat_map packet_in told ≡ packets
  pub losses_are : length (flat_map loss_in told) ≡ losses
  pub none_torn : flat_map torn_in told ≡ []

-- how a reader stands behind slots of a fair run, where no packet is begun
abbrev pub standing_behind : (fasb : Bool) (before : List Slot) → Standing
standing_behind fasb before = cond (known_start fasb before) aligned seeking

-- Of a fair run a reader tells the clear packets as received, in order, and each gap, and it tears no frame. So it does
-- whatever stands before the beginning.
abbrev pub ReadsTheClear : Type 0
ReadsTheClear =
    (fasb : Bool) (width number : ℕ) (before : List Slot) (s : List Sent) → Written fasb width None s → Fair s
    → Tells (told_of fasb width (standing_behind fasb before) number (map became s)) (map as_received (clear fasb before s)) (gaps (map became s))

-- 2. From there to the law.

abbrev pub answered : (width : ℕ) (value : List ℕ → List ℕ) (refusal : List ℕ → Option ℕ) → List Told → List Answer
answered width value refusal told = map (λ t. answer_to width value refusal (Some t)) told

-- the service admits it, and it is not empty
abbrev pub Admitted : (refusal : List ℕ → Option ℕ) → List ℕ → Type 0
Admitted refusal p = (refusal p ≡ None) × (1 ≤ length p)

-- What a flow shows of its history: the laws of its checksum; what its writer owes; that packets are carried, each of them
-- admitted by the service; and that what its readings answered, followed by what its reader still has to tell, is what a
-- reader answers to all that was sent, with nothing more to tell where the last reading found nothing.
pub record Shown (fasb : Bool) (width reach : ℕ) (value : List ℕ → List ℕ) (refusal : List ℕ → Option ℕ) (h : History) : Type 0 where
  pub sized : (s : List ℕ) → length (value s) ≡ width
  pub detects : Detects reach value
  pub written : Written fasb width None (all_sent h)
  pub carries : CarriesPackets fasb value h
  pub admitted : AllByRecursion (Admitted refusal) (packets_accepted h)
  pub untold : List Told
  pub told : answers_given h ++ answered width value refusal untold ≡ answered width value refusal (told_of fasb width aligned 0 (map became (all_sent h)))
  pub read_out : EndsWith reading (answers nothing) h → untold ≡ []

abbrev pub RunLawHolds : Type 0
RunLawHolds =
    (fasb : Bool) (width reach : ℕ) (value : List ℕ → List ℕ) (refusal : List ℕ → Option ℕ) (h : History)
    → Shown fasb width reach value refusal h → RunLaw fasb width reach value h
