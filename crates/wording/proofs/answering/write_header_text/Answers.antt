use Rattle.std.proofs.Common.{◌≡◌, ℕ, ◌+◌, List, Ok, Err, length, take, drop, min, string_bytes, ◌∙◌, sym, ap, subst, arith}
use Rattle.std.proofs.lemmas.List.{take_at}
use Rattle.std.proofs.lemmas.Result.{IfOk-weaker}
use Rattle.service.specs.Writing.{writing}
use Rattle.wording.specs.Answers.{wrote_line}
use Rattle.wording.proofs.Written.{told_written, told_refused}
use Rattle.wording.proofs.answering.write_header_text.Goals as goal

pub returns-in-Ok : goal.returns-in-Ok
returns-in-Ok c =
    let h = c.args.header.now in
    let payload = c.args.payload.now in
    let size : length c.as_mut_slice.result.now ≡ min c.args.buffer_len (length payload + 6) =
    c.as_mut_slice.ensures.len ∙ c.in_ok-buffer.ensures.len ∙ c.min-len.ensures in
    let writes : writing h payload (min c.args.buffer_len (length payload + 6)) ≡ Ok c.in-Ok.end =
    subst (λ (k : ℕ). writing h payload k ≡ Ok c.in-Ok.end) size (sym c.in-Ok.ensures.answer) in
    let after = c.write_header.new.out in
    let long : length after ≡ c.in_ok-buffer.buffer.len = let kept = c.write_header.auto.out in let whole = c.as_mut_slice.ensures.len in omega arith in
    let kept : c.as_slice.result.now ≡ take c.in-Ok.end after =
    c.as_slice.ensures.value ∙ c.truncate.ensures.items
    ∙ ap (λ (l : List ℕ). take c.in-Ok.end l) (take_at after (drop (length after) c.in_ok-buffer.buffer.items) c.in_ok-buffer.buffer.len long) in
    IfOk-weaker c.to_string.result _ _
    (λ t told.
    told_written h payload c.args.buffer_len c.in-Ok.end _ _ (string_bytes t) writes c.in-Ok.ensures.buffer (told ∙ ap wrote_line kept))
    c.to_string.ensures.ok

pub returns : goal.returns
returns c =
    let h = c.args.header.now in
    let payload = c.args.payload.now in
    let size : length c.as_mut_slice.result.now ≡ min c.args.buffer_len (length payload + 6) =
    c.as_mut_slice.ensures.len ∙ c.in_ok-buffer.ensures.len ∙ c.min-len.ensures in
    let refuses : writing h payload (min c.args.buffer_len (length payload + 6)) ≡ Err c.number.result =
    subst (λ (k : ℕ). writing h payload k ≡ Err c.number.result) size (sym c.in-Err.ensures.answer ∙ ap Err (sym c.number.ensures)) in
    IfOk-weaker c.refused_text.result _ _ (λ t told. told_refused h payload c.args.buffer_len c.number.result (string_bytes t) refuses told) c.refused_text.ensures
