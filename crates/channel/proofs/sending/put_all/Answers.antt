use Rattle.std.proofs.Common.{◌≡◌, ◌+◌, ◌<◌, List, [], ◌∷◌, ◌++◌, length, get_or, take, sym, subst, arith}
use Rattle.std.proofs.lemmas.List.{take_more, length-take-le}
use Rattle.channel.specs.declared.sending.Outgoing.{Outgoing}
use Rattle.channel.specs.declared.sending.Outgoing.TheVariants.{Frame}
use Rattle.channel.specs.Outgoings.{AllPut}
use Rattle.channel.proofs.Sends.{all_put_more}
use Rattle.channel.proofs.sending.put_all.Goals as goal

pub loop-i-preserved : goal.loop-i-preserved
loop-i-preserved g c =
    let items : List Outgoing = c.args.items.now in
    let none : Outgoing = Frame (record { bytes = [] }) in
    let below : c.loop-i.i < length items = omega arith in
    let more : take (c.loop-i.i + 1) items ≡ take c.loop-i.i items ++ get_or items c.loop-i.i none ∷ [] =
    take_more items c.loop-i.i none below in
    let put : AllPut g.C.Channel.slots g.C.Channel.space g.C.Channel.made g.C.Channel.tied (take (c.loop-i.i + 1) items) c.args.channel.now c.put.new.self =
    subst
    (λ (done : List Outgoing).
    AllPut g.C.Channel.slots g.C.Channel.space g.C.Channel.made g.C.Channel.tied done c.args.channel.now c.put.new.self)
    (sym more)
    (all_put_more (take c.loop-i.i items) (get_or items c.loop-i.i none) c.put.result c.loop-i.invariant.1
    c.put.ensures c.if-is_err.ensures.value) in
    let many = length-take-le (c.loop-i.i + 1) items (omega arith) in (omega (arith, put.counts), put)
