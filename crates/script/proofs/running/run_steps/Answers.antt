use Rattle.script.proofs.Whole.{ran_script}
use Rattle.script.proofs.running.run_steps.Goals as goal

pub returns : goal.returns
returns g c =
    ran_script g.C.Channel.slots g.C.Channel.space g.C.Channel.made g.C.Channel.tied g.K.Checksum.width g.K.Checksum.value g.S.Service.verdict
    g.K.Checksum.reach g.met.K.Checksum.sized g.met.K.Checksum.detects
    c.args.channel c.args.terms c.args.id c.args.steps.now _ c.begin-session.result
    c.begin-session.ensures.flow c.begin-session.ensures.hand c.take_steps-done.ensures
