use Rattle.channel.proofs.Layers.{fade_put}
use Rattle.channel.proofs.fade.FadeChannel.put.Goals as goal

pub returns-clause-answers : goal.returns-clause-answers
returns-clause-answers g c = fade_put c.put.result c.args.self.now c.put.ensures
