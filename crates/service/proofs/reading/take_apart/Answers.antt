use Rattle.std.proofs.Common.{◌≡◌, ℕ, ◌<◌, ◌≤◌, false, List, length, get_or, drop, sym, ap, ◌∙◌, arith}
use Rattle.std.proofs.lemmas.List.{take_rest}
use Rattle.service.specs.Asking.{ask, AllYes}
use Rattle.service.specs.Encoding.{field_questions}
use Rattle.service.specs.Map.{bit, header_length}
use Rattle.service.specs.Reading.{facts_within, read_by}
use Rattle.service.specs.declared.header.SyncHeader.{SyncHeader}
use Rattle.service.specs.declared.map.HeaderMap.{HeaderMap}
use Rattle.service.proofs.Whole.{read_yes}
use Rattle.service.proofs.reading.take_apart.Goals as goal

pub returns : goal.returns
returns c =
    let s : List ℕ = c.args.packet.now in
    let byte = get_or s 0 0 in
    let m = c.from-map.result in
    let some : 1 ≤ length s = omega arith in
    let e₇ : bit 7 byte ≡ false = cc in
    let e₈ : bit 8 byte ≡ false = cc in
    let fits : header_length m < length s = omega arith in
    let fields : AllYes (field_questions (facts_within m s)) =
    sym (ap (λ (h : SyncHeader). ask (field_questions h) (tt {0})) c.facts_in-header.ensures)
    ∙ sym c.in_ok-check_fields.ensures in
    let yes = read_yes byte m s some e₇ e₈ (sym c.in_ok-check.ensures) fits fields in
    let payload = take_rest s c.header_len-start.result ∙ ap (λ (n : ℕ). drop n s) c.header_len-start.ensures in
    let mapped = ap (λ (m : HeaderMap). read_by byte m s) c.from-map.ensures in
    cc
