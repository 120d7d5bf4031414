use Rattle.std.proofs.Common.{◌≡◌, List, [], ◌∷◌, ◌++◌, vec_items, sym, refl, ap, ◌∙◌, subst}
use Rattle.std.specs.List.{AllByRecursion}
use Rattle.std.proofs.ByRecursion.{All-push}
use Rattle.script.specs.declared.reply.Answered.{Answered}
use Rattle.script.specs.Answers.{NotNothing}
use Rattle.script.specs.Steps.{ReadInto, ReadsOn}
use Rattle.script.proofs.Drained.{tells_one, drains_more}
use Rattle.script.proofs.session.Session.drain.Goals as goal

pub returns-in-Err : goal.returns-in-Err
returns-in-Err g c =
    let items = sym c.ready.ensures.items in (
      record {
        answers = c.ready.new.answers;
        reply_is = refl;
        reads =
            subst
            (λ (l : List Answered).
            ReadsOn g.C.Channel.slots g.C.Channel.space g.C.Channel.made g.C.Channel.tied g.K.Checksum.width g.K.Checksum.value g.S.Service.verdict l c.args.self.now c.loop-buffer.self)
            items c.loop-buffer.invariant.0;
      },
      subst (λ (l : List Answered). AllByRecursion NotNothing l) items c.loop-buffer.invariant.1,
    )

pub returns-then-last : goal.returns-then-last
returns-then-last g c =
    let before = vec_items c.loop-buffer.answers in
    let items : vec_items c.push_reserved.new.self ≡ before ++ c.read-answered.result ∷ [] =
    c.push_reserved.ensures.items ∙ ap (λ (l : List Answered). l ++ c.read-answered.result ∷ []) c.ready.ensures.items in (
      record {
        answers = c.push_reserved.new.self;
        reply_is = refl;
        reads =
            drains_more g.C.Channel.slots g.C.Channel.space g.C.Channel.made g.C.Channel.tied g.K.Checksum.width g.K.Checksum.value g.S.Service.verdict
            before (vec_items c.push_reserved.new.self) c.read-answered.result (vec_items c.in-Ok.buffer) c.args.self.now c.loop-buffer.self c.read-answered.new.self
            items c.in-Ok.ensures.made.0 c.loop-buffer.invariant.0 c.read-answered.ensures;
      },
      record {
        earlier = before;
        last = c.read-answered.result;
        whole = items;
        not_before = c.loop-buffer.invariant.1;
        then = c.is_nothing-last.ensures.0 c.if-last.true;
      },
    )

pub loop-buffer-smaller : goal.loop-buffer-smaller
loop-buffer-smaller g c =
    tells_one g.C.Channel.slots g.C.Channel.space g.C.Channel.made g.C.Channel.tied g.K.Checksum.width g.K.Checksum.value g.S.Service.verdict
    c.read-answered.result c.loop-buffer.self c.read-answered.new.self
    (subst
    (λ b.
    ReadInto g.C.Channel.slots g.C.Channel.space g.C.Channel.made g.C.Channel.tied g.K.Checksum.width g.K.Checksum.value g.S.Service.verdict b c.read-answered.result c.loop-buffer.self c.read-answered.new.self)
    c.in-Ok.ensures.made.0 c.read-answered.ensures)
    (c.is_nothing-last.ensures.1 c.if-last.false)

pub loop-buffer-preserved : goal.loop-buffer-preserved
loop-buffer-preserved g c =
    let before = vec_items c.loop-buffer.answers in
    let items : vec_items c.push_reserved.new.self ≡ before ++ c.read-answered.result ∷ [] =
    c.push_reserved.ensures.items ∙ ap (λ (l : List Answered). l ++ c.read-answered.result ∷ []) c.ready.ensures.items in (
      drains_more g.C.Channel.slots g.C.Channel.space g.C.Channel.made g.C.Channel.tied g.K.Checksum.width g.K.Checksum.value g.S.Service.verdict
          before (vec_items c.push_reserved.new.self) c.read-answered.result (vec_items c.in-Ok.buffer) c.args.self.now c.loop-buffer.self c.read-answered.new.self
          items c.in-Ok.ensures.made.0 c.loop-buffer.invariant.0 c.read-answered.ensures,
      subst (λ (l : List Answered). AllByRecursion NotNothing l) (sym items)
          (All-push NotNothing before c.read-answered.result c.loop-buffer.invariant.1 (c.is_nothing-last.ensures.1 c.if-last.false)),
    )
