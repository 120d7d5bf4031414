use Rattle.std.proofs.Common.{sym, ◌∙◌}
use Rattle.service.proofs.Respelled.{read_spelled}
use Rattle.service.proofs.Spelled.{spelled_read, one_meaning}
use Rattle.service.proofs.reading.read_header.Goals as goal

pub returns-clause-exact : goal.returns-clause-exact
returns-clause-exact c h payload =
    let s = c.args.packet.now in
    let is = c.take_apart.ensures in (
      (λ e. read_spelled s (λ k _. (c.type_inv.packet k).fits) h payload (sym is ∙ e)),
      (λ sp. is ∙ spelled_read s h payload sp),
    )

pub returns-clause-one_meaning : goal.returns-clause-one_meaning
returns-clause-one_meaning c = one_meaning c.args.packet.now
