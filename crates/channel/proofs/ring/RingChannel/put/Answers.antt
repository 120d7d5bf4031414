use borrow.Rule.Slice.Mut.{set_vals}
use Rattle.std.proofs.Common.{◌+◌, ◌<◌, refl, arith}
use Rattle.channel.specs.declared.ring.Ring.{Ring}
use Rattle.channel.specs.Outgoings.{as_slot}
use Rattle.channel.specs.Rings.{room_in, Pushed}
use Rattle.channel.proofs.Rounds.{has_place, pushed, push_answer}
use Rattle.channel.proofs.ring.RingChannel.put.Goals as goal

pub place-place-requires : goal.place-place-requires
place-place-requires c = has_place c.args.self.now (omega arith)

pub overflow_add-self : goal.overflow_add-self
overflow_add-self c = let below = has_place c.args.self.now (omega arith) in omega arith

pub returns : goal.returns
returns c =
    let old : Ring = c.args.self.now in
    let some : 0 < room_in old = omega arith in
    let memory = set_vals c.store.new.memory old.memory in
    let new : Ring = record { memory = memory; first = old.first; count = old.count + 1 } in
    let joined : Pushed (as_slot c.args.item.now) old new =
    pushed old (as_slot c.args.item.now) memory c.place-place.result (has_place old some) c.place-place.ensures
    c.store.ensures.holds c.store.ensures.elsewhere refl in
    record { answers = push_answer c.args.item.now old new some joined; exact = joined }
