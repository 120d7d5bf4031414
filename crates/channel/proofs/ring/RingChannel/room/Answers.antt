use Rattle.std.proofs.Common.{◌≡◌, min, arith}
use Rattle.channel.specs.Rings.{capacity, slot_at}
use Rattle.channel.proofs.Rounds.{length_round}
use Rattle.channel.proofs.ring.RingChannel.room.Goals as goal

pub overflow_sub-result : goal.overflow_sub-result
overflow_sub-result c =
    let old = c.args.self.now in
    let size = capacity old.memory.now in
    let is : c.capacity.result ≡ size = c.capacity.ensures in
    let many = length_round (slot_at old.memory.now) size old.first (min old.count size) in
    omega arith
