use Rattle.std.proofs.Common.{◌≡◌, ℕ, ◌+◌, List, [], ◌∷◌, ◌++◌, vec_items, Vec, refl, ap, ap₂, ◌∙◌, inr, arith}
use Rattle.std.proofs.ByRecursion.{All-push}
use Rattle.std.proofs.lemmas.List.{length-append}
use Rattle.std.specs.declared.alloc.Global.{Global}
use Rattle.script.specs.declared.reply.Answered.{Answered}
use Rattle.script.specs.declared.reply.Reply.{Reply}
use Rattle.script.specs.declared.reply.Reply.TheVariants.{Drained}
use Rattle.script.specs.Answers.{Whole}
use Rattle.script.proofs.Whole.{follows_on, one_more_taken}
use Rattle.script.proofs.running.take_steps.Goals as goal

pub returns-in-Err-InDrain : goal.returns-in-Err-InDrain
returns-in-Err-InDrain g c =
    let before = vec_items c.loop-step.replies in
    let last = Drained c.in-Err-InDrain.answers in
    let done = rw c.in-Err-InDrain.field-0-is at c.in-Err-InDrain.ensures in
    let items : vec_items c.push_reserved-in-Err-InDrain.new.self ≡ before ++ last ∷ [] =
    c.push_reserved-in-Err-InDrain.ensures.items
    ∙ ap₂ (λ (l : List Reply) (a : Vec Answered Global). l ++ Drained a ∷ []) c.reserve.ensures.items c.in-Err-InDrain.answers-is in
    rw items
    (one_more_taken _ _ _ _ _ _ _ c.args.steps.now c.loop-step.step-index before c.step-item.result last _ _ c.loop-step.session _
    (omega arith) c.step-item.is c.loop-step.invariant.2 c.loop-step.invariant.0 done.0
    (inr (record { earlier = before; answers = c.in-Err-InDrain.answers; replies_are = refl; whole = c.loop-step.invariant.1; part = done.1 })))

pub loop-step-preserved : goal.loop-step-preserved
loop-step-preserved g c =
    let before = vec_items c.loop-step.replies in
    let last = c.in-Ok.reply in
    let done = c.in-Ok.ensures in
    let items : vec_items c.push_reserved.new.self ≡ before ++ last ∷ [] =
    c.push_reserved.ensures.items ∙ ap (λ (l : List Reply). l ++ last ∷ []) c.reserve.ensures.items in
    rw items (
      follows_on _ _ _ _ _ _ _ c.args.steps.now c.loop-step.step-index before c.step-item.result last _ c.loop-step.session _
          (omega arith) c.step-item.is c.loop-step.invariant.0 done.0,
      All-push Whole before last c.loop-step.invariant.1 done.1,
      length-append before (last ∷ []) ∙ ap (λ (n : ℕ). n + 1) c.loop-step.invariant.2,
    )
