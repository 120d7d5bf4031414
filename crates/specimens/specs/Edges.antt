-- The edges of the questions: for each number the last input that is answered yes and the first that is not, and which of two
-- questions comes first. Each is computed from the definitions that the contracts cite.
use Rattle.std.specs.Prelude.{◌≡◌, ℕ, Bool, true, false, List, [], ◌∷◌, ◌++◌, replicate, Some, None, Option}
use Rattle.framing.specs.declared.slot.Slot.{Slot}
use Rattle.framing.specs.declared.slot.Slot.TheVariants.{Frame, Gap, Mark}
use Rattle.framing.specs.Giving.{asked, gives, refuses}
use Rattle.framing.specs.Judging.{Verdict, lawful, torn, judgment, first_no}
use Rattle.channel.specs.Asking.{room_question}
use Rattle.channel.specs.Patterns.{length_question, passes, faded}
use Rattle.channel.specs.Rings.{capacity}
use Rattle.flow.specs.Asking.{opening_questions, offer_questions, closing_questions}
use Rattle.flow.specs.Writing.{State, idle}
use Rattle.receiver.specs.Answering.{Answer, handed_out, short, sound, damaged, foreign, answered}
use Rattle.receiver.specs.Reading.{Told, packet, lost, torn_frame, mark, aligned, next_number, told_of}
use Rattle.receiver.specs.Readings.{buffer_question}
use Rattle.reel.specs.Playing.{reel_slots}
use Rattle.reel.specs.Reel.{reading}

-- 1. Frames, judged.

abbrev pub judged : (width : ℕ) → Option ℕ → List ℕ → Verdict
judged width gathered frame = (judgment width gathered frame).verdict

-- a header, so many zeros, and then the rest
abbrev pub headed : (header zeros : ℕ) → List ℕ → List ℕ
headed header zeros rest = header ∷ (replicate zeros 0 ++ rest)

pub record CountEdges : Type 0 where
  -- 10
  pub no_frame : asked (headed 0xF9 120 []) ≡ refuses 10
  pub a_frame : asked (headed 0xF9 121 []) ≡ gives
  pub too_long : asked (headed 0xF9 122 []) ≡ refuses 10
  -- 11
  pub of_121 : judged 0 None (headed 0xF9 121 []) ≡ lawful
  pub of_122 : judged 0 None (headed 0xFA 121 []) ≡ torn 11 1
  pub of_126 : judged 0 None (headed 0x7E 121 []) ≡ torn 11 1
  -- 16
  pub notional : judged 0 None (headed 0xF8 120 (0x80 ∷ [])) ≡ lawful
  pub not_marked : judged 0 None (headed 0xF8 120 (0x00 ∷ [])) ≡ torn 16 122
  pub early : judged 0 None (headed 0xF7 119 (0x80 ∷ 0x80 ∷ [])) ≡ torn 16 121

pub record PaddingEdges : Type 0 where
  pub whole : judged 0 None (headed 0x7F 121 []) ≡ lawful
  -- 12, before 13 and 14
  pub marked : judged 0 None (headed 0xFF 121 []) ≡ torn 12 1
  pub marked_at_end : judged 0 None (headed 0xF8 120 (0xFF ∷ [])) ≡ torn 12 122
  -- 13
  pub one_byte : judged 0 None (headed 0xF7 119 (0x7F ∷ 0x00 ∷ [])) ≡ lawful
  pub no_byte : judged 0 None (headed 0xF8 120 (0x7F ∷ [])) ≡ torn 13 122
  -- 14, before 15
  pub last_not_zero : judged 0 None (headed 0x7F 120 (0x01 ∷ [])) ≡ torn 14 1
  pub first_not_zero : judged 0 (Some 1) (0x7F ∷ headed 0x01 120 []) ≡ torn 14 1
  -- 15
  pub packet_open : judged 0 (Some 1) (headed 0x7F 121 []) ≡ torn 15 1
  pub packet_ended : judged 0 (Some 1) (0x81 ∷ 0x00 ∷ headed 0x7F 119 []) ≡ lawful

pub record BodyEdges : Type 0 where
  -- 17, before 18
  pub inside : judged 0 None (0x81 ∷ 0x00 ∷ headed 0xF7 119 []) ≡ lawful
  pub past : judged 0 None (0x81 ∷ 0x00 ∷ headed 0x78 119 []) ≡ torn 17 3
  -- 18, before 19
  pub goes_on : judged 0 None (headed 0x79 121 []) ≡ lawful
  pub ends_early : judged 0 (Some 2044) (headed 0x78 121 []) ≡ torn 18 1
  -- 19
  pub longest : judged 0 (Some 1923) (headed 0x79 121 []) ≡ lawful
  pub too_long : judged 0 (Some 1924) (headed 0x79 121 []) ≡ torn 19 1
  pub longest_of_two : judged 2 (Some 1925) (headed 0x79 121 []) ≡ lawful
  pub too_long_of_two : judged 2 (Some 1926) (headed 0x79 121 []) ≡ torn 19 1
  pub next_packet : judged 0 (Some 2043) (0x81 ∷ 0x00 ∷ headed 0xF7 119 []) ≡ lawful

-- 2. Channels and reels.

-- a frame of so many
abbrev pub full_of : ℕ → Slot
full_of b = Frame (record { bytes = replicate 122 b })

pub record ChannelEdges : Type 0 where
  -- 9
  pub no_room : room_question 0 ≡ Some 9
  pub room : room_question 1 ≡ None
  -- 20
  pub no_pattern : length_question 0 ≡ Some 20
  pub shortest : length_question 1 ≡ None
  pub longest : length_question 64 ≡ None
  pub too_long : length_question 65 ≡ Some 20
  -- a slot takes 123 bytes
  pub no_slot : capacity (replicate 122 0) ≡ 0
  pub one_slot : capacity (replicate 245 0) ≡ 1
  pub two_slots : capacity (replicate 246 0) ≡ 2
  -- bit 1 of byte 1 is number 0; bit 8 of byte 2 is number 15, and then the first comes again
  pub first_bit : passes (0x01 ∷ 0x80 ∷ []) 0 ≡ true
  pub eighth_bit : passes (0x01 ∷ 0x80 ∷ []) 7 ≡ false
  pub last_bit : passes (0x01 ∷ 0x80 ∷ []) 15 ≡ true
  pub round : passes (0x01 ∷ 0x80 ∷ []) 16 ≡ true
  -- gaps are counted, and marks are not
  pub fades :
      faded (0x0A ∷ []) 0 (full_of 1 ∷ Mark ∷ full_of 2 ∷ Gap ∷ full_of 3 ∷ [])
      ≡ Gap ∷ Mark ∷ full_of 2 ∷ Gap ∷ full_of 3 ∷ []

pub record ReelEdges : Type 0 where
  -- 21, and the place of the block
  pub none : (reading (0x00 ∷ [])).stop ≡ Some (21, 1)
  pub most : (reading (headed 200 25 [])).stop ≡ None
  pub too_many : (reading (headed 201 26 [])).stop ≡ Some (21, 1)
  pub second_block : (reading (0x01 ∷ 0x00 ∷ 0x00 ∷ [])).stop ≡ Some (21, 3)
  -- 22, before 23
  pub no_map : (reading (0x01 ∷ [])).stop ≡ Some (22, 1)
  pub short_map : (reading (headed 200 24 [])).stop ≡ Some (22, 1)
  pub one_byte : (reading (0x08 ∷ 0x00 ∷ [])).stop ≡ None
  pub two_bytes : (reading (0x09 ∷ 0x00 ∷ [])).stop ≡ Some (22, 1)
  pub spare_first : (reading (0x02 ∷ 0x07 ∷ [])).stop ≡ Some (22, 1)
  -- 23
  pub frame_short : (reading (0x01 ∷ 0x01 ∷ replicate 121 7)).stop ≡ Some (23, 1)
  pub frame_there : (reading (0x01 ∷ 0x01 ∷ replicate 122 7)).stop ≡ None
  -- bit 1 is frame 1; what stands behind the first no gives no slot
  pub slots_are :
      reel_slots (reading (0x02 ∷ 0x02 ∷ (replicate 122 7 ++ 0x00 ∷ []))).superframes ≡ Gap ∷ full_of 7 ∷ Mark ∷ []

-- 3. The calls of a flow.

-- an open superframe: the frames that are left, and so many bytes of the unfinished one
abbrev pub under_way : (left used : ℕ) → State
under_way left used = record { opened = true; left = left; begun = replicate used 0; over = [] }

pub record OpeningEdges : Type 0 where
  -- 1, before 2
  pub is_open : first_no (opening_questions 0 (under_way 1 0) 0) ≡ Some 1
  -- 2, before 3
  pub no_frame : first_no (opening_questions 0 idle 0) ≡ Some 2
  pub most : first_no (opening_questions 200 idle 201) ≡ None
  pub too_many : first_no (opening_questions 201 idle 202) ≡ Some 2
  -- 3
  pub one_frame : first_no (opening_questions 1 idle 2) ≡ None
  pub no_room_for_the_mark : first_no (opening_questions 1 idle 1) ≡ Some 3

-- an offer of so many bytes, with or without FASB, under a checksum of that width, to flow 1 with the token of flow 1
abbrev pub offered : (fasb : Bool) (width size : ℕ) → State → Option ℕ
offered fasb width size s = first_no (offer_questions 1 1 fasb width None (replicate size 0) s)

pub record OfferEdges : Type 0 where
  -- 4, before 5
  pub not_open : first_no (offer_questions 1 1 false 0 None [] idle) ≡ Some 4
  pub other_token : first_no (offer_questions 2 1 false 0 None [] (under_way 1 0)) ≡ Some 4
  pub closing_not_open : first_no (closing_questions 1 1 idle) ≡ Some 4
  pub closing_other_token : first_no (closing_questions 2 1 (under_way 1 0)) ≡ Some 4
  pub closing : first_no (closing_questions 1 1 (under_way 0 0)) ≡ None
  -- 5, before 6
  pub empty : first_no (offer_questions 1 1 false 0 (Some 30) [] (under_way 1 0)) ≡ Some 5
  pub one_byte : offered false 0 1 (under_way 1 0) ≡ None
  pub longest : offered false 4 2044 (under_way 17 0) ≡ None
  pub too_long : offered false 0 2045 (under_way 17 0) ≡ Some 5
  -- 6, before 7
  pub not_served : first_no (offer_questions 1 1 false 0 (Some 30) (0x00 ∷ []) (under_way 0 0)) ≡ Some 6
  -- 7
  pub fits : offered false 2 119 (under_way 1 0) ≡ None
  pub too_large : offered false 2 120 (under_way 1 0) ≡ Some 7
  pub fits_behind : offered false 0 122 (under_way 2 120) ≡ None
  pub too_large_behind : offered false 0 123 (under_way 2 120) ≡ Some 7
  pub crossing : offered true 2 2044 (under_way 1 120) ≡ None
  pub none_free : offered true 2 1 (under_way 0 0) ≡ Some 7

-- 4. Reading.

-- a checksum of two zeros, and a service that refuses all by 30
abbrev pub judged_packet : Option ℕ → List ℕ → Answer
judged_packet refusal = answered 2 (λ _. 0 ∷ 0 ∷ []) (λ _. refusal)

-- what a new reader tells of these slots
abbrev pub telling : (fasb : Bool) → List Slot → List Told
telling fasb = told_of fasb 0 aligned 0

-- a frame without an end of a packet; one with a packet of one byte; one of padding; one that is torn
abbrev pub middle : Slot
middle = Frame (record { bytes = headed 0x79 121 [] })

abbrev pub single : Slot
single = Frame (record { bytes = 0x81 ∷ 0x41 ∷ headed 0x7F 119 [] })

abbrev pub empty : Slot
empty = Frame (record { bytes = headed 0x7F 121 [] })

abbrev pub broken : Slot
broken = Frame (record { bytes = headed 0x7A 121 [] })

pub record ReadingEdges : Type 0 where
  -- 8
  pub buffer : buffer_question 2044 ≡ None
  pub short_buffer : buffer_question 2043 ≡ Some 8
  -- a packet and its checksum: short, sound, damaged before foreign
  pub is_short : judged_packet None (0 ∷ 0 ∷ []) ≡ short
  pub is_sound : judged_packet None (1 ∷ 0 ∷ 0 ∷ []) ≡ handed_out sound (1 ∷ [])
  pub is_foreign : judged_packet (Some 30) (1 ∷ 0 ∷ 0 ∷ []) ≡ handed_out (foreign 30) (1 ∷ [])
  pub is_damaged : judged_packet (Some 30) (1 ∷ 0 ∷ 1 ∷ []) ≡ handed_out damaged (1 ∷ [])
  -- numbers begin at 1, at set-up and after each mark, and stay at 65,535
  pub numbers : telling false (Gap ∷ Gap ∷ Mark ∷ Gap ∷ []) ≡ lost 1 0 ∷ lost 2 0 ∷ mark 0 ∷ lost 1 0 ∷ []
  pub last_number : next_number 65534 ≡ 65535
  pub stays : next_number 65535 ≡ 65535
  -- a mark drops what is gathered, but where packets may cross it
  pub dropped : telling false (middle ∷ Mark ∷ Gap ∷ []) ≡ mark 121 ∷ lost 1 0 ∷ []
  pub kept : telling true (middle ∷ Mark ∷ Gap ∷ []) ≡ mark 0 ∷ lost 1 121 ∷ []
  -- a gap: the next frame's first packet is skipped; behind padding it is not, nor behind a mark that ends packets
  pub skipped : telling false (Gap ∷ single ∷ single ∷ []) ≡ lost 1 0 ∷ packet (0x41 ∷ []) ∷ []
  pub padded : telling false (Gap ∷ empty ∷ single ∷ []) ≡ lost 1 0 ∷ packet (0x41 ∷ []) ∷ []
  pub behind_mark : telling false (Gap ∷ Mark ∷ single ∷ []) ≡ lost 1 0 ∷ mark 0 ∷ packet (0x41 ∷ []) ∷ []
  -- a torn frame counts as a gap
  pub tears : telling false (middle ∷ broken ∷ single ∷ []) ≡ torn_frame 2 121 11 1 ∷ []
  pub tears_open : telling false (middle ∷ empty ∷ []) ≡ torn_frame 2 121 15 1 ∷ []
