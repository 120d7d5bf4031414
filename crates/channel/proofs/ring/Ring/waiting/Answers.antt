use Rattle.std.proofs.Common.{ℕ, min, sym, ap, ◌∙◌}
use Rattle.channel.specs.Rings.{capacity, slot_at}
use Rattle.channel.proofs.Rounds.{length_round}
use Rattle.channel.proofs.ring.Ring.waiting.Goals as goal

pub returns : goal.returns
returns c =
    let memory = c.args.self.now.memory.now in
    c.min.ensures
    ∙ ap (λ (n : ℕ). min c.args.self.now.count n) c.capacity.ensures
    ∙ sym (length_round (slot_at memory) (capacity memory) c.args.self.now.first (min c.args.self.now.count (capacity memory)))
