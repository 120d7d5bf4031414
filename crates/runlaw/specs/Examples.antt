-- Worked examples of losses, without a checksum: what was put, frame by frame and byte by byte, and what comes out.
use Rattle.std.specs.Prelude.{◌≡◌, ℕ, Bool, List, [], ◌∷◌, ◌++◌, map, replicate}
use Rattle.std.specs.List.{flat_map}
use Rattle.framing.specs.declared.slot.Slot.TheVariants.{Frame, Gap}
use Rattle.channel.specs.Sending.{Sent, sent_frame, sent_mark, became}
use Rattle.receiver.specs.Reading.{aligned, told_of}
use Rattle.runlaw.specs.Packets.{as_received, clear}
use Rattle.runlaw.specs.Theorem.{packet_in}

-- the fate of a frame: it comes as it was put, or it is lost
pub data Fate : Type 0 where
  comes : Fate
  goes : Fate

abbrev pub put : List ℕ → Fate → Sent
put f comes = sent_frame f (Frame (record { bytes = f }))
put f goes = sent_frame f Gap

-- These come out: they are the clear packets, and what a reader makes of the slots.
pub record ComesOut (fasb : Bool) (s : List Sent) (packets : List (List ℕ)) : Type 0 where
  pub clear_are : map as_received (clear fasb [] s) ≡ packets
  pub read_are : flat_map packet_in (told_of fasb 0 aligned 0 (map became s)) ≡ packets

-- Packets of 200 and of 100 bytes in a superframe of three frames.

abbrev pub of_200 : List ℕ
of_200 = replicate 200 1

abbrev pub of_100 : List ℕ
of_100 = replicate 100 2

abbrev pub long_and_short : Fate → Fate → Fate → List Sent
long_and_short first second third =
    put (0x79 ∷ replicate 121 1) first
    ∷ put ((0xCF ∷ replicate 79 1) ++ (0x29 ∷ replicate 41 2)) second
    ∷ put ((0xBB ∷ replicate 59 2) ++ (0x7F ∷ replicate 61 0)) third
    ∷ sent_mark
    ∷ []

-- Two packets of 121 bytes, in one superframe of two frames, and in two superframes of one frame.

abbrev pub of_121 : List ℕ
of_121 = replicate 121 2

abbrev pub in_one : Fate → Fate → List Sent
in_one first second = put (0xF9 ∷ replicate 121 1) first ∷ put (0xF9 ∷ replicate 121 2) second ∷ sent_mark ∷ []

abbrev pub in_two : Fate → Fate → List Sent
in_two first second =
    put (0xF9 ∷ replicate 121 1) first ∷ sent_mark ∷ put (0xF9 ∷ replicate 121 2) second ∷ sent_mark ∷ []
