-- The code runs on the digits; what the shift register makes of them is computed here.
use Rattle.std.proofs.Common.{◌≡◌, ℕ, ◌/◌, ◌%◌, [], ◌∷◌, ap, ◌∙◌}
use Rattle.checksum.specs.Crc16.{step_by, feed_by, register}
use Rattle.checksum.proofs.crc16.Crc16.check_value.Goals as goal

pub returns : goal.returns
unfolding step_by feed_by
returns c =
    let whole : c.register_of.result ≡ 0x29B1 = c.register_of.ensures ∙ ap register c.digits.ensures in
    let value : c.to_be_bytes.result ≡ 0x29 ∷ 0xB1 ∷ [] =
    c.to_be_bytes.ensures ∙ ap (λ (n : ℕ). n / 256 % 256 ∷ n % 256 ∷ []) whole
    in
    record { digits = value; value = value }
