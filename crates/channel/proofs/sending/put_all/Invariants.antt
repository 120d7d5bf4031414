use Rattle.std.proofs.Common.{◌≡◌, ◌+◌, take}
use Rattle.channel.specs.Outgoings.{AllPut}
use Rattle.channel.proofs.sending.put_all.Given as goal

-- those so far were put
abbrev pub invariant-loop-i : goal.invariant-loop-i
invariant-loop-i g l =
    (g.C.Channel.space l.initial.channel ≡ g.C.Channel.space l.channel + l.i)
    × AllPut g.C.Channel.slots g.C.Channel.space g.C.Channel.made g.C.Channel.tied (take l.i l.items)
    l.initial.channel l.channel
