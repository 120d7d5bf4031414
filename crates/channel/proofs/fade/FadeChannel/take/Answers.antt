use Rattle.channel.proofs.Layers.{fade_take}
use Rattle.channel.proofs.fade.FadeChannel.take.Goals as goal

pub returns-clause-answers : goal.returns-clause-answers
returns-clause-answers g c =
    fade_take c.in_ok-slot.slot c.args.self.now c.pass.new.self c.pass.result
    c.in_ok-slot.ensures c.pass.ensures.gives c.pass.ensures.counts c.pass.ensures.same.0
    c.pass.ensures.same.1
