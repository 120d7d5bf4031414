-- The edges of a reel's questions: antt computes each reading.
use Rattle.std.proofs.Common.{refl}
use Rattle.reel.specs.Bits.{bits_of, bits}
use Rattle.reel.specs.Reel.{reading_from}
use Rattle.specimens.specs.Edges.{ReelEdges}

pub reel_edges : ReelEdges
unfolding bits_of bits reading_from
reel_edges = record {
  none = refl;
  most = refl;
  too_many = refl;
  second_block = refl;
  no_map = refl;
  short_map = refl;
  one_byte = refl;
  two_bytes = refl;
  spare_first = refl;
  frame_short = refl;
  frame_there = refl;
  slots_are = refl;
}
