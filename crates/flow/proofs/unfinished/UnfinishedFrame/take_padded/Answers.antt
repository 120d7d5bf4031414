use Rattle.std.proofs.Common.{◌∙◌}
use Rattle.flow.proofs.Pads.{padded_is}
use Rattle.flow.proofs.unfinished.UnfinishedFrame.take_padded.Goals as goal

pub returns-clause-frame : goal.returns-clause-frame
returns-clause-frame c =
    c.take.ensures.frame ∙ c.append.ensures
    ∙ padded_is c.args.self.now.bytes.items c.push.new.self.items c.to_byte.result c.len-used.result c.to_byte.ensures c.push.ensures.items c.len-used.ensures.value
