use Rattle.std.proofs.Common.{◌≡◌, ◌≤◌, length, sym, refl, None, arith}
use Rattle.std.proofs.lemmas.Grind.{common_steps}
use Rattle.reel.specs.Bits.{bits}
use Rattle.reel.specs.Block.{map_part, frames_part, refusal}
use Rattle.reel.proofs.Bits.{set_bits_at_most, length_bits}
use Rattle.reel.proofs.Reels.{bytes_of}
use Rattle.reel.proofs.Writing.{read_fits, read_written}
use Rattle.reel.proofs.parsing.read_block.Goals as goal

pub overflow_mul-set_bits : goal.overflow_mul-set_bits
overflow_mul-set_bits c =
    let few : length c.in_ok-map.map.now ≤ 25 = grind (arith, common_steps) in
    let most = set_bits_at_most (bits c.in_ok-map.map.now) in
    let long = length_bits c.in_ok-map.map.now in
    omega arith

pub returns : goal.returns
returns c =
    let bytes = c.args.bytes.now in
    let map_is : c.in_ok-map.map.now ≡ map_part bytes = grind (arith, common_steps) in
    let frames_is : c.in_ok-frames.frames.now ≡ frames_part bytes = grind (arith, common_steps) in
    let fine : refusal bytes ≡ None = grind (arith, common_steps) in
    let are = bytes_of bytes c.type_inv.bytes in (
      fine,
      record { at = refl; size = refl; map = map_is; frames = frames_is },
      record { fits = read_fits bytes are fine; again = sym (read_written bytes are fine) },
    )
