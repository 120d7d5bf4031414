-- Packets in frames: antt computes each superframe.
use Rattle.std.proofs.Common.{[], ◌∷◌, ◌++◌, take, drop, refl}
use Rattle.std.proofs.lemmas.Bool.{le-leb}
use Rattle.channel.specs.Sending.{a_frame, a_mark}
use Rattle.checksum.specs.Crc16.{step_by, feed_by}
use Rattle.flow.specs.Cutting.{cut, paddings}
use Rattle.specimens.specs.Superframes.{bare, superframe, Writes, Refuses}
use Rattle.specimens.specs.Frames.{Becomes, PacketsAsFrames, WhatFits}
use Rattle.specimens.proofs.Contents.{of_every, of_every_two, own}

pub packets_as_frames : PacketsAsFrames
unfolding cut paddings step_by feed_by
packets_as_frames = record {
  one_byte = record { accepted = λ id. (λ room fits. rw le-leb, (rw own, rw own), tt); put_is = refl };
  of_119 = of_every (λ p. Becomes bare p ((0xF7 ∷ p) ++ 0x7F ∷ 0x00 ∷ [])) 119
      (λ byte. record { accepted = λ id. (λ room fits. rw le-leb, (rw own, rw own), tt); put_is = refl });
  of_120 = of_every (λ p. Becomes bare p ((0xF8 ∷ p) ++ 0x80 ∷ [])) 120
      (λ byte. record { accepted = λ id. (λ room fits. rw le-leb, (rw own, rw own), tt); put_is = refl });
  of_121 = of_every (λ p. Becomes bare p (0xF9 ∷ p)) 121
      (λ byte. record { accepted = λ id. (λ room fits. rw le-leb, (rw own, rw own), tt); put_is = refl });
  digits = record { accepted = λ id. (λ room fits. rw le-leb, (rw own, rw own), tt); put_is = refl };
}

pub what_fits : WhatFits
unfolding cut paddings
what_fits = record {
  alone = of_every (λ p. Refuses bare (superframe 1 []) [] p 7) 122
      (λ byte. record { accepted = λ id. (λ room fits. rw le-leb, rw own, tt); put_is = refl; refused = λ id. rw own });
  behind_119 = of_every_two
      (λ first second. Writes bare (superframe 2 (first ∷ second ∷ []) ∷ [])
      (a_frame ((0xF7 ∷ first) ++ 0x01 ∷ take 1 second) ∷ a_frame (0xF9 ∷ drop 1 second) ∷ a_mark ∷ []))
      119 122
      (λ a b. record { accepted = λ id. (λ room fits. rw le-leb, (rw own, (rw own, rw own)), tt); put_is = refl });
  behind_120 = of_every_two (λ first second. Refuses bare (superframe 2 (first ∷ [])) (a_frame ((0xF8 ∷ first) ++ 0x80 ∷ []) ∷ []) second 7) 120 122
      (λ a b. record { accepted = λ id. (λ room fits. rw le-leb, (rw own, rw own), tt); put_is = refl; refused = λ id. rw own });
}
