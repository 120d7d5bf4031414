use Rattle.std.proofs.Common.{◌+◌, ◌≤◌, [], sym, refl, ap, arith}
use Rattle.std.proofs.lemmas.Bool.{leb-true}
use Rattle.framing.proofs.Rendered.{all_yes}
use Rattle.flow.specs.Asking.{opening_questions}
use Rattle.flow.specs.Cutting.{cut}
use Rattle.flow.specs.Writing.{State, state_of}
use Rattle.flow.proofs.Ties.{CutWent, cut_went}
use Rattle.flow.proofs.flow.Flow.start.Goals as goal

pub returns : goal.returns
returns g c =
    let old = c.args.self.now in
    let n = c.args.n in
    let asked = c.in_ok-check_opening.ensures in
    let yes_all = all_yes (opening_questions n (state_of old.writer) (g.C.Channel.space old.channel)) (sym asked) in
    let room : n + 1 ≤ g.C.Channel.space old.channel = leb-true _ _ yes_all.1.1.0 in
    let begun = c.begin.ensures in
    let cuts = cut n [] (state_of old.writer).over in
    let goes : g.C.Channel.tied old.channel → CutWent g.C.Channel.slots g.C.Channel.space g.C.Channel.made g.C.Channel.tied cuts old.channel c.begin.new.channel = λ safe.
    cut_went g.C.Channel.slots g.C.Channel.space g.C.Channel.made g.C.Channel.tied n [] (state_of old.writer).over old.channel c.begin.new.channel begun.puts safe room in
    record {
      asked = asked;
      same = tt;
      token = refl;
      steady = record { terms = refl; id = refl };
      reader_stays = refl;
      leaves = begun.state;
      sends = λ ties. (goes ties.0).went;
      ties = λ ties. (
        (goes ties.0).still_tied,
        λ _. let kept = (goes ties.0).room_kept in omega (arith, ap (λ (s : State). s.left) begun.state),
      );
    }
