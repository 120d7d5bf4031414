-- Worked examples of packets in frames. A packet of any content has the length that is named.
use Rattle.std.specs.Prelude.{◌≡◌, ℕ, List, [], ◌∷◌, ◌++◌, length, take, drop, replicate, codes}
use Rattle.channel.specs.Sending.{a_frame, a_mark}
use Rattle.specimens.specs.Superframes.{Mode, bare, with_crc16, superframe, Writes, Refuses}

-- One packet, alone in a superframe of one frame, becomes this frame.
abbrev pub Becomes : Mode → (packet frame : List ℕ) → Type 0
Becomes m packet frame = Writes m (superframe 1 (packet ∷ []) ∷ []) (a_frame frame ∷ a_mark ∷ [])

pub record PacketsAsFrames : Type 0 where
  -- behind the packet there is room for padding; for its header and one zero; for a notional packet; for nothing
  pub one_byte : Becomes bare (0x41 ∷ []) (0x81 ∷ 0x41 ∷ 0x7F ∷ replicate 119 0)
  pub of_119 : (packet : List ℕ) → length packet ≡ 119 → Becomes bare packet ((0xF7 ∷ packet) ++ 0x7F ∷ 0x00 ∷ [])
  pub of_120 : (packet : List ℕ) → length packet ≡ 120 → Becomes bare packet ((0xF8 ∷ packet) ++ 0x80 ∷ [])
  pub of_121 : (packet : List ℕ) → length packet ≡ 121 → Becomes bare packet (0xF9 ∷ packet)
  -- the nine digits, and their checksum behind them
  pub digits : Becomes with_crc16 (codes "123456789") ((0x8B ∷ codes "123456789") ++ 0x29 ∷ 0xB1 ∷ 0x7F ∷ replicate 109 0)

pub record WhatFits : Type 0 where
  -- one byte too many for a frame
  pub alone : (packet : List ℕ) → length packet ≡ 122 → Refuses bare (superframe 1 []) [] packet 7
  -- two bytes are left of the first frame: a header, and the first byte of the second packet
  pub behind_119 :
      (first second : List ℕ) → length first ≡ 119 → length second ≡ 122
      → Writes bare (superframe 2 (first ∷ second ∷ []) ∷ [])
      (a_frame ((0xF7 ∷ first) ++ 0x01 ∷ take 1 second) ∷ a_frame (0xF9 ∷ drop 1 second) ∷ a_mark ∷ [])
  -- one byte is left of the first frame, which becomes a notional packet
  pub behind_120 :
      (first second : List ℕ) → length first ≡ 120 → length second ≡ 122
      → Refuses bare (superframe 2 (first ∷ [])) (a_frame ((0xF8 ∷ first) ++ 0x80 ∷ []) ∷ []) second 7
