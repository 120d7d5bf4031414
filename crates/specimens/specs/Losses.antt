-- Worked examples of lost frames: what comes out of what the rules of writing put. A packet of any content has the length
-- that is named.
use Rattle.std.specs.Prelude.{◌≡◌, ℕ, zero, suc, ◌+◌, ◌-◌, cond, List, [], ◌∷◌, ◌++◌, map, length, take, drop, replicate, None, ◌==◌}
use Rattle.framing.specs.declared.slot.Slot.{Slot}
use Rattle.framing.specs.declared.slot.Slot.TheVariants.{Frame, Gap}
use Rattle.channel.specs.Sending.{Put, a_frame, a_mark, Sent, sent_frame, sent_mark, became}
use Rattle.receiver.specs.Answering.{Answer, handed_out, sound, lost, mark, nothing, answer_to}
use Rattle.receiver.specs.Reading.{Reader, new_reader, Outcome, reading}
use Rattle.runlaw.specs.Packets.{as_received, clear}
use Rattle.specimens.specs.Superframes.{Mode, bare, crossing, Superframe, superframe, puts, Writes}

-- The frame of this number, counted from 1, is lost, and all others come as they were put; at 0 none is lost.
abbrev pub losing : ℕ → List Put → List Sent
losing k [] = []
losing k (a_mark ∷ more) = sent_mark ∷ losing k more
losing k (a_frame f ∷ more) = sent_frame f (cond (k == 1) Gap (Frame (record { bytes = f }))) ∷ losing (k - 1) more

-- The answers to so many readings, one after another, of a reader that finds these slots.
abbrev pub readings : Mode → ℕ → Reader → List Slot → List Answer
readings m zero r slots = []
readings m (suc k) r slots =
    let o : Outcome = reading m.fasb m.width r slots in
    answer_to m.width m.value (λ _. None) o.told ∷ readings m k o.reader (drop (length o.taken) slots)

-- The frame of this number is lost of those that a new flow puts: then these are the clear packets, and just so a new reader
-- answers, reading by reading, until it answers nothing.
pub record ComesOut (m : Mode) (superframes : List Superframe) (k : ℕ) (packets : List (List ℕ)) (answers : List Answer) : Type 0 where
  pub clear_are : map as_received (clear m.fasb [] (losing k (puts m superframes))) ≡ packets
  pub answers_are :
      readings m (length answers + 1) new_reader (map became (losing k (puts m superframes))) ≡ answers ++ nothing ∷ []

-- Packets of 200 and of 100 bytes in a superframe of three frames.

abbrev pub three_frames : (long short : List ℕ) → List Superframe
three_frames long short = superframe 3 (long ∷ short ∷ []) ∷ []

pub record OfThreeFrames (long short : List ℕ) : Type 0 where
  pub written :
      Writes bare (three_frames long short)
      (a_frame (0x79 ∷ take 121 long)
      ∷ a_frame ((0xCF ∷ drop 121 long) ++ 0x29 ∷ take 41 short)
      ∷ a_frame ((0xBB ∷ drop 41 short) ++ 0x7F ∷ replicate 61 0)
      ∷ a_mark
      ∷ [])
  pub none_lost :
      ComesOut bare (three_frames long short) 0 (long ∷ short ∷ []) (handed_out sound long ∷ handed_out sound short ∷ mark 0 ∷ [])
  pub first_lost : ComesOut bare (three_frames long short) 1 (short ∷ []) (lost 1 0 ∷ handed_out sound short ∷ mark 0 ∷ [])
  pub second_lost : ComesOut bare (three_frames long short) 2 [] (lost 2 121 ∷ mark 0 ∷ [])
  pub third_lost : ComesOut bare (three_frames long short) 3 (long ∷ []) (handed_out sound long ∷ lost 3 41 ∷ mark 0 ∷ [])

-- Two packets of 121 bytes, which have a frame each, of which the first is lost: in one superframe; in two; and in two where
-- packets may cross superframes, so that a mark is no packet boundary.

abbrev pub in_one_superframe : (one two : List ℕ) → List Superframe
in_one_superframe one two = superframe 2 (one ∷ two ∷ []) ∷ []

abbrev pub in_two_superframes : (one two : List ℕ) → List Superframe
in_two_superframes one two = superframe 1 (one ∷ []) ∷ superframe 1 (two ∷ []) ∷ []

pub record OfTwoFrames (one two : List ℕ) : Type 0 where
  pub in_one_written : Writes bare (in_one_superframe one two) (a_frame (0xF9 ∷ one) ∷ a_frame (0xF9 ∷ two) ∷ a_mark ∷ [])
  pub in_one : ComesOut bare (in_one_superframe one two) 1 [] (lost 1 0 ∷ mark 0 ∷ [])
  pub in_two_written :
      Writes bare (in_two_superframes one two) (a_frame (0xF9 ∷ one) ∷ a_mark ∷ a_frame (0xF9 ∷ two) ∷ a_mark ∷ [])
  pub in_two : ComesOut bare (in_two_superframes one two) 1 (two ∷ []) (lost 1 0 ∷ mark 0 ∷ handed_out sound two ∷ mark 0 ∷ [])
  pub crossed_written :
      Writes crossing (in_two_superframes one two) (a_frame (0xF9 ∷ one) ∷ a_mark ∷ a_frame (0xF9 ∷ two) ∷ a_mark ∷ [])
  pub crossed : ComesOut crossing (in_two_superframes one two) 1 [] (lost 1 0 ∷ mark 0 ∷ mark 0 ∷ [])

pub record LostFrames : Type 0 where
  pub of_three : (long short : List ℕ) → length long ≡ 200 → length short ≡ 100 → OfThreeFrames long short
  pub of_two : (one two : List ℕ) → length one ≡ 121 → length two ≡ 121 → OfTwoFrames one two
