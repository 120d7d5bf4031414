use Rattle.std.proofs.Common.{◌≡◌, ℕ, List, [], ◌∷◌, ◌++◌, sym, ap, subst}
use Rattle.checksum.specs.Stretch.{ChangedInOneStretch, bits}
use Rattle.checksum.specs.Crc16.{step_by, feed_by, crc16}
use Rattle.checksum.proofs.Missed.{three_zeros, seventeen_bits, not_17}
use Rattle.checksum.proofs.crc16.Crc16.undetected_pair.Goals as goal

pub returns : goal.returns
unfolding step_by feed_by
returns c =
    let other : c.generator_bits.result ≡ 0x01 ∷ 0x10 ∷ 0x21 ∷ [] = c.generator_bits.ensures in
    record {
      pair = ap (λ (m : List ℕ). (three_zeros, m)) other;
      one_value = ap crc16 other;
      stretch = subst (λ (m : List ℕ). ChangedInOneStretch 17 (bits (three_zeros ++ crc16 three_zeros)) (bits (m ++ crc16 three_zeros)))
          (sym other) seventeen_bits;
      sharp = not_17;
    }
