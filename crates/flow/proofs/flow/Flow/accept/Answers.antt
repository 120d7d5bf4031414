use Rattle.std.proofs.Common.{◌≡◌, ℕ, true, List, ◌++◌, take, sym, refl, ap, ◌∙◌, subst, arith}
use Rattle.std.proofs.lemmas.Bool.{and_parts}
use Rattle.framing.proofs.Rendered.{all_yes}
use Rattle.flow.specs.Asking.{offer_questions}
use Rattle.flow.specs.Calls.{Tied}
use Rattle.flow.specs.Cutting.{cut}
use Rattle.flow.specs.Sending.{Done}
use Rattle.flow.specs.Writing.{State, state_of, offering}
use Rattle.flow.proofs.Ties.{CutWent, cut_went}
use Rattle.flow.proofs.flow.Flow.accept.Goals as goal

pub returns : goal.returns
returns g c =
    let old = c.args.self.now in
    let was = state_of old.writer in
    let packet = c.args.packet.now in
    let asked = c.in_ok-check_offer.ensures.asked in
    let yes_all =
    all_yes
    (offer_questions c.args.token.now.flow old.id old.terms.fasb g.K.Checksum.width (g.S.Service.verdict old.terms.service packet) packet was)
    (sym asked) in
    let opened : was.opened ≡ true = (and_parts _ _ yes_all.0).0 in
    let all = packet ++ g.K.Checksum.value packet in
    let bytes : c.as_slice.result.now ≡ all =
    c.as_slice.ensures.value ∙ c.with_checksum-bytes.ensures
    ∙ ap (λ (n : ℕ). packet ++ take n c.value_of-value.result) c.value_len-width.ensures
    ∙ ap (λ (v : List ℕ). packet ++ v) c.value_of-value.ensures.front in
    let placed =
    subst
    (λ (b : List ℕ).
    Done g.C.Channel.slots g.C.Channel.space g.C.Channel.made g.C.Channel.tied
    (offering b was) c.place.new.self old.channel c.place.new.channel)
    bytes c.place.ensures in
    let cuts = cut was.left was.begun all in
    let goes : Tied g.C.Channel.space g.C.Channel.tied old → CutWent g.C.Channel.slots g.C.Channel.space g.C.Channel.made g.C.Channel.tied cuts old.channel c.place.new.channel = λ ties.
    cut_went g.C.Channel.slots g.C.Channel.space g.C.Channel.made g.C.Channel.tied was.left was.begun all old.channel c.place.new.channel placed.puts ties.0
    (ties.1 opened) in
    record {
      asked = asked;
      inside_is = tt;
      same = tt;
      steady = record { terms = refl; id = refl };
      reader_stays = refl;
      leaves = placed.state;
      sends = λ ties. (goes ties).went;
      ties = λ ties. (
        (goes ties).still_tied,
        λ _. let kept = (goes ties).room_kept in omega (arith, ap (λ (s : State). s.left) placed.state),
      );
    }
