use Rattle.std.proofs.Common.{◌≡◌, ℕ, true, cond, Some, None, Option, sym, refl, ap}
use Rattle.std.proofs.lemmas.Bool.{and_parts, both_ways}
use Rattle.channel.specs.Sending.{Went}
use Rattle.flow.specs.Calls.{Tied}
use Rattle.flow.specs.Writing.{State, state_of, closing}
use Rattle.flow.proofs.Ties.{closing_went}
use Rattle.flow.proofs.flow.Flow.end.Goals as goal

pub returns : goal.returns
returns g c =
    let old = c.args.self.now in
    let holds = c.if-not-holds.ensures in
    let opened : (state_of old.writer).opened ≡ true = (and_parts _ _ (sym holds)).0 in
    let finished = c.finish.ensures in
    let goes : Tied g.C.Channel.space g.C.Channel.tied old
    → Went g.C.Channel.made (closing (state_of old.writer)).puts (g.C.Channel.slots old.channel) (g.C.Channel.space old.channel)
    (g.C.Channel.slots c.finish.new.channel) (g.C.Channel.space c.finish.new.channel)
    × g.C.Channel.tied c.finish.new.channel = λ ties.
    closing_went g.C.Channel.slots g.C.Channel.space g.C.Channel.made g.C.Channel.tied (state_of old.writer) old.channel c.finish.new.channel finished.puts ties.0 (ties.1 opened) in
    record {
      asked = ap (λ b. cond {A = Option ℕ} b None (Some 4)) holds;
      same = tt;
      steady = record { terms = refl; id = refl };
      reader_stays = refl;
      leaves = finished.state;
      sends = λ ties. (goes ties).0;
      ties = λ ties. ((goes ties).1, λ e. absurd (both_ways _ (ap (λ (s : State). s.opened) finished.state) e));
    }
