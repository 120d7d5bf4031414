use Rattle.std.proofs.Common.{◌≡◌, ℕ, ◌+◌, ◌≤◌, false, eqb, List, ◌++◌, length, drop, Ok, sym, ap, ◌∙◌, arith, length-append}
use Rattle.std.proofs.lemmas.Bool.{eqb-false}
use Rattle.service.specs.Asking.{ask, AllYes}
use Rattle.service.specs.Encoding.{header_bytes, encoding}
use Rattle.service.specs.Map.{map_of, map_questions, header_length}
use Rattle.service.specs.declared.map.HeaderMap.{HeaderMap}
use Rattle.service.proofs.Puts.{put_both, header_long}
use Rattle.service.proofs.Whole.{write_yes}
use Rattle.service.proofs.writing.put_packet.Goals as goal

pub returns : goal.returns
returns c =
    let h = c.args.header.now in
    let p : List ℕ = c.args.payload.now in
    let old : List ℕ = c.args.out.now in
    let long : length (header_bytes h) ≡ header_length c.from-map.result =
    header_long h ∙ ap header_length (sym c.from-map.ensures) in
    let whole : length (encoding h p) ≡ length (header_bytes h) + length p = length-append (header_bytes h) p in
    let first = c.put_header-end.ensures.put in
    let both = put_both 0 c.put_header-end.result c.put.result (header_bytes h) p old c.put_header-end.new.out c.put.new.out (omega arith) first c.put.ensures in
    let checked : AllYes (map_questions (map_of h)) =
    sym (ap (λ (m : HeaderMap). ask (map_questions m) (tt {0})) c.from-map.ensures) ∙ sym c.in_ok-check.ensures in
    let not_empty : eqb (length p) 0 ≡ false = sym c.is_empty.ensures ∙ c.if-is_empty.false in
    let some : 1 ≤ length p = omega (arith, eqb-false (length p) 0 not_empty) in
    let yes =
    write_yes h p (length old) checked some (sym c.in_ok-check_fields.ensures) (omega arith) in
    let ends : c.put.result ≡ length (encoding h p) = omega (arith, both.ends) in
    record {
      answer = ap Ok ends ∙ sym yes;
      buffer = both.bytes_are ∙ ap (λ (n : ℕ). encoding h p ++ drop n old) ends;
      fits = c.put_header-end.ensures.fits;
    }
