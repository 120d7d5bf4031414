-- Where all questions are answered yes, a packet is read, and a header and a payload are written.
use Rattle.std.proofs.Common.{◌≡◌, ℕ, ◌+◌, ◌<◌, ◌≤◌, true, false, leb, List, [], ◌∷◌, ◌++◌, length, drop, Ok, ◌∙◌, arith}
use Rattle.std.proofs.lemmas.Bool.{le-leb}
use Rattle.service.specs.Asking.{Question, AllYes}
use Rattle.service.specs.Encoding.{encoding, field_questions}
use Rattle.service.specs.Map.{bit, map_of, map_questions, header_length}
use Rattle.service.specs.Reading.{facts_within, read_by}
use Rattle.service.specs.Writing.{writing}
use Rattle.service.specs.declared.header.SyncHeader.{SyncHeader}
use Rattle.service.specs.declared.map.HeaderMap.{HeaderMap}
use Rattle.service.proofs.Asked.{asked, asked_all}

pub read_yes : (byte : ℕ) (m : HeaderMap) (s : List ℕ)
    → 1 ≤ length s → bit 7 byte ≡ false → bit 8 byte ≡ false → AllYes (map_questions m)
    → header_length m < length s → AllYes (field_questions (facts_within m s))
    → read_by byte m s ≡ Ok (facts_within m s, drop (header_length m) s)
read_yes byte m s some e₇ e₈ maps fits fields =
    let q₃₀ : leb 1 (length s) ≡ true = le-leb 1 (length s) some in
    let q₃₄ : leb (header_length m + 1) (length s) ≡ true = le-leb (header_length m + 1) (length s) (omega arith) in
    let a : SyncHeader × List ℕ = (facts_within m s, drop (header_length m) s) in
    let more : List Question = (34, leb (header_length m + 1) (length s)) ∷ field_questions (facts_within m s) in
    rw (q₃₀, e₇, e₈) (asked (map_questions m) more a maps ∙ rw q₃₄ (asked_all (field_questions (facts_within m s)) a fields))

pub write_yes : (h : SyncHeader) (payload : List ℕ) (n : ℕ)
    → AllYes (map_questions (map_of h)) → 1 ≤ length payload → AllYes (field_questions h)
    → length (encoding h payload) ≤ n → writing h payload n ≡ Ok (length (encoding h payload))
write_yes h payload n maps some fields fits =
    let k = length (encoding h payload) in
    let q₃₄ : leb 1 (length payload) ≡ true = le-leb 1 (length payload) some in
    let q₃₆ : leb k n ≡ true = le-leb k n fits in
    let last : List Question = (36, leb k n) ∷ [] in
    asked (map_questions (map_of h)) ((34, leb 1 (length payload)) ∷ (field_questions h ++ last)) k maps
    ∙ rw q₃₄ (asked (field_questions h) last k fields ∙ rw q₃₆)
