use Rattle.std.proofs.Common.{◌+◌, ◌≤◌, List, [], ◌++◌, sym, ap, ◌∙◌, arith}
use Rattle.std.proofs.lemmas.List.{append-nil}
use Rattle.framing.specs.Fragments.{fragments_from}
use Rattle.framing.specs.declared.slot.Slot.{Slot}
use Rattle.receiver.specs.Views.{standing_of}
use Rattle.receiver.proofs.Limits.{within_more}
use Rattle.receiver.proofs.Slots.{begins, hand_out, with_nothing, with_told, goes_on_with, packet_short, took_some, leaves_itself, leaves_on}
use Rattle.receiver.proofs.reader.Reader.next_told.Goals as goal

pub loop-fasb-init : goal.loop-fasb-init
loop-fasb-init g c = (
  begins c.args.fasb c.args.width c.args.self.now c.hand_at-at.result (g.C.Channel.slots c.args.channel.now) c.hand_at-at.ensures.rests c.hand_at-at.ensures.unread,
  leaves_itself,
)

pub advance-requires : goal.advance-requires
advance-requires g c =
    let under = c.loop-fasb.invariant.0 in
    let narrow : 2044 + c.args.width ≤ 2048 = omega arith in
    (under.rests, within_more (2044 + c.args.width) 2048 (standing_of c.loop-fasb.self) (fragments_from c.loop-fasb.self.frame.bytes c.loop-fasb.at) narrow under.fits)

pub returns-then-advance-clause-fits : goal.returns-then-advance-clause-fits
returns-then-advance-clause-fits g c =
    packet_short c.args.width c.loop-fasb.self c.advance.new.self c.loop-fasb.at c.loop-fasb.invariant.0.fits c.if-advance.ensures.finds

pub returns-in_err-slot-clause-ends : goal.returns-in_err-slot-clause-ends
returns-in_err-slot-clause-ends g c =
    let got = c.if-advance.ensures in
    let none = c.in_err-slot.ensures in
    rw c.from_residual.ensures
    (with_nothing c.args.fasb c.args.width _ _ c.loop-fasb.self c.advance.new.self c.loop-fasb.at _ _ c.loop-fasb.invariant.0 got.finds got.same.1 none.first.0 (ap g.C.Channel.slots none.first.1))

pub receive-requires : goal.receive-requires
receive-requires g c = hand_out c.loop-fasb.self c.advance.new.self c.loop-fasb.at c.if-advance.ensures.finds

pub returns-in-Some : goal.returns-in-Some
returns-in-Some g c =
    let under = c.loop-fasb.invariant.0 in
    let got = c.if-advance.ensures in
    let took = c.in_ok-slot.ensures in
    let told = c.in-Some.ensures in
    let ends = with_told c.args.fasb c.args.width _ _ c.loop-fasb.self c.advance.new.self c.receive.new.self c.loop-fasb.at _ _ c.in_ok-slot.slot c.in-Some.told under got.finds got.same.1 took.first told in
    record {
      ends = ends;
      fits = told.1;
      leaves = leaves_on took c.loop-fasb.invariant.1 (λ untaken. absurd (took_some _ _ [] _ under.taken _ c.in_ok-slot.slot (sym (append-nil _)) ends.takes (under.took ∙ ap (λ (l : List Slot). under.taken ++ l) took.first) untaken));
    }

pub loop-fasb-preserved : goal.loop-fasb-preserved
loop-fasb-preserved g c =
    let under = c.loop-fasb.invariant.0 in
    let got = c.if-advance.ensures in
    let took = c.in_ok-slot.ensures in
    let on = goes_on_with c.args.fasb c.args.width _ _ c.loop-fasb.self c.advance.new.self c.receive.new.self c.loop-fasb.at _ _ c.in_ok-slot.slot under got.finds got.same.1 took.first c.in_default.ensures in (
      on,
      leaves_on took c.loop-fasb.invariant.1 (λ untaken. absurd (took_some _ on.taken _ _ under.taken _ c.in_ok-slot.slot (ap (λ o. o.taken) on.gives) on.took (under.took ∙ ap (λ (l : List Slot). under.taken ++ l) took.first) untaken)),
    )
