use Rattle.std.proofs.Common.{ap, ◌∙◌}
use Rattle.reel.specs.Playing.{part_slots}
use Rattle.reel.specs.Reel.{Reading}
use Rattle.reel.proofs.Plays.{whole_reel}
use Rattle.reel.proofs.Reels.{bytes_of}
use Rattle.reel.proofs.playing.ReelChannel.over.Goals as goal

pub returns-clause-waits : goal.returns-clause-waits
returns-clause-waits c =
    let reel = c.args.reel.now in
    ap (λ (r : Reading). part_slots r.superframes) c.of.ensures.reads ∙ whole_reel reel (bytes_of reel c.type_inv.reel)
