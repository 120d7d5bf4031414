use Rattle.std.proofs.Common.{◌≡◌, ℕ, ◌+◌, List, length, sym, ap, ◌∙◌, subst, ap₂}
use Rattle.framing.specs.Fragments.{fragments, fragments_from}
use Rattle.framing.specs.Judging.{lawful, is_lawful, judgment}
use Rattle.receiver.specs.Reading.{Standing, next_number, verdict_on}
use Rattle.receiver.specs.Views.{standing_of, Within}
use Rattle.receiver.proofs.Limits.{lawful_within}
use Rattle.receiver.proofs.Slots.{at_lawful}
use Rattle.receiver.proofs.reader.Reader.receive.Goals as goal

pub returns-in-Ok : goal.returns-in-Ok
returns-in-Ok c =
    let r : Standing = standing_of c.args.self.now in
    let bytes : List ℕ = c.in-Frame.frame.bytes in
    let held = c.hold.ensures.holds.0 in
    let whole : length bytes ≡ 122 = sym (ap (λ f. length f.bytes) held) ∙ c.hold.new.self.whole in
    let judged : lawful ≡ verdict_on c.args.width r bytes =
    c.in-Ok.ensures ∙ ap (λ o. (judgment c.args.width o bytes).verdict) c.open_len.ensures in
    let fit : Within (2044 + c.args.width) r (fragments bytes) = lawful_within c.args.width r bytes whole (sym (ap is_lawful judged)) in
    record {
      reads_on = λ rest.
          at_lawful c.args.fasb c.args.width r c.args.self.now.number c.args.slot bytes _ rest c.in-Frame.is judged
          (ap₂ (λ (s : Standing) (k : ℕ). record { standing = s; number = k; in_hand = fragments_from c.hold.new.self.frame.bytes 0 }) c.hold.ensures.same c.hold.ensures.counts
          ∙ ap (λ f. record { standing = r; number = next_number c.args.self.now.number; in_hand = fragments f.bytes }) held);
      rests = c.hold.ensures.holds.1;
      fits =
          subst (λ (s : Standing). Within (2044 + c.args.width) s (fragments_from c.hold.new.self.frame.bytes 0)) (sym c.hold.ensures.same)
          (subst (λ f. Within (2044 + c.args.width) r (fragments_from f.bytes 0)) (sym held) fit);
    }
