use Rattle.std.proofs.Common.{◌≡◌, length, take, vec_items}
use Rattle.std.specs.List.{AllByRecursion}
use Rattle.script.specs.Answers.{Whole}
use Rattle.script.specs.Scripts.{Follows}
use Rattle.script.proofs.running.take_steps.Given as goal

-- the steps so far were done, and each has its reply
abbrev pub invariant-loop-step : goal.invariant-loop-step
invariant-loop-step g l =
    Follows g.C.Channel.slots g.C.Channel.space g.C.Channel.made g.C.Channel.tied g.K.Checksum.width g.K.Checksum.value g.S.Service.verdict
    (take l.step-index l.steps) (vec_items l.replies) l.initial.session l.session
    × AllByRecursion Whole (vec_items l.replies)
    × (length (vec_items l.replies) ≡ l.step-index)
