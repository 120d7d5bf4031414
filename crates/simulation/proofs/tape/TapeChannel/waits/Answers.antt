use Rattle.framing.specs.declared.slot.Slot.TheVariants.{Mark}
use Rattle.channel.specs.declared.sending.Outgoing.{Outgoing}
use Rattle.simulation.proofs.Tapings.{waits_so}
use Rattle.simulation.proofs.tape.TapeChannel.waits.Goals as goal

pub returns : goal.returns
returns c = waits_so c.args.self.now (record { put = Outgoing.Mark; slot = Mark }) c.len.result c.len.ensures
