use Rattle.std.proofs.Common.{◌≡◌, refl, arith, rules}
use Rattle.channel.specs.Sending.{a_frame, a_mark}
use Rattle.flow.specs.Writing.{state_of}
use Rattle.flow.proofs.Sends.{puts_one}
use Rattle.flow.proofs.States.{same_state}
use Rattle.flow.proofs.Pads.{padding_more, padding_ends}
use Rattle.flow.proofs.writer.Writer.finish.Goals as goal

pub loop-self-preserved : goal.loop-self-preserved
loop-self-preserved g c =
    padding_more c.pad-frame.result.bytes c.loop-self.invariant (omega arith) c.pad-frame.ensures.frame c.pad-frame.ensures.goes_on
    (puts_one g.C.Channel.slots g.C.Channel.space g.C.Channel.made g.C.Channel.tied
    (a_frame c.pad-frame.result.bytes) c.put.result _ _ c.put.ensures)

pub returns : goal.returns
returns g c =
    let none : (state_of c.loop-self.self).left ≡ 0 = omega arith in
    record {
      state = same_state _ _ refl refl (c.loop-self.self.none_begun none) c.loop-self.invariant.over;
      puts =
          padding_ends c.loop-self.invariant none
          (search (rules, puts_one g.C.Channel.slots g.C.Channel.space g.C.Channel.made g.C.Channel.tied a_mark));
    }
