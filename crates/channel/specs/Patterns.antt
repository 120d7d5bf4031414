-- The pattern of a fade, and the list as it comes through.
use Rattle.std.specs.Prelude.{ℕ, ◌+◌, ◌*◌, ◌/◌, ◌%◌, ◌^◌, min, Bool, cond, ◌&&◌, List, [], ◌∷◌, length, take, Some, None, Ok, Err, Option, Result, ◌==◌, bit_and, nat_le, slice_index}
use Rattle.framing.specs.declared.slot.Slot.{Slot}
use Rattle.framing.specs.declared.slot.Slot.TheVariants.{Frame, Gap, Mark}
use Rattle.channel.specs.declared.pattern.FadePattern.{FadePattern}
use Rattle.channel.specs.declared.pattern.PatternFault.{PatternFault}
use Rattle.channel.specs.declared.pattern.PatternFault.TheVariants.{Length}

-- the number of the question that refuses a pattern: has it 1 to 64 bytes?
abbrev pub pattern_number : PatternFault → ℕ
pattern_number Length = 20

-- the number by which a preparing was refused
abbrev pub pattern_refusal : Result (Unit {0}) PatternFault → Option ℕ
pattern_refusal (Ok _) = None
pattern_refusal (Err fault) = Some (pattern_number fault)

-- a pattern of n bytes is refused by 20 where n is not 1 to 64
abbrev pub length_question : ℕ → Option ℕ
length_question n = cond (nat_le 1 n && nat_le n 64) None (Some 20)

-- the bytes of a prepared pattern, of which there is at least one
abbrev pub shown : FadePattern → List ℕ
shown p = take (min p.last 63 + 1) p.bytes

-- whether a bit of a byte is set, counted from 0 for the lowest
abbrev pub is_set : ℕ → ℕ → Bool
is_set byte bit = bit_and (byte / 2 ^ bit) 1 == 1

-- Whether frame or gap number k passes. The bits of the pattern are counted from number 0, which is bit 1, the lowest, of byte 1;
-- after the last comes the first again.
abbrev pub passes : List ℕ → ℕ → Bool
passes pattern k = is_set (slice_index pattern (k % (8 * length pattern) / 8)) (k % (8 * length pattern) % 8)

-- what comes through of a slot: a frame or gap whose bit is clear becomes a gap
abbrev pub through : List ℕ → ℕ → Slot → Slot
through pattern k (Frame f) = cond (passes pattern k) (Frame f) Gap
through pattern k Gap = Gap
through pattern k Mark = Mark

-- frames and gaps are numbered in their order, and marks are not
abbrev pub number_after : ℕ → Slot → ℕ
number_after k (Frame f) = k + 1
number_after k Gap = k + 1
number_after k Mark = k

-- the list as it comes through a fade, its first frame or gap being number k
abbrev pub faded : List ℕ → ℕ → List Slot → List Slot
faded pattern k [] = []
faded pattern k (s ∷ rest) = through pattern k s ∷ faded pattern (number_after k s) rest
