-- A header and a payload fill no more than six bytes beyond the payload, so that a longer buffer is answered alike.
use Rattle.std.proofs.Common.{◌≡◌, ℕ, ◌+◌, ◌≤◌, Bool, List, [], ◌∷◌, ◌++◌, length, take, drop, min, Some, None, Ok, Err, Option, Result, nat_le, sym, ap, ◌∙◌, arith}
use Rattle.std.proofs.lemmas.Bool.Decides.{nat_tests}
use Rattle.std.proofs.lemmas.List.{length-append}
use Rattle.std.proofs.Math.Seq.{take-append_seam}
use Rattle.service.specs.Asking.{ask}
use Rattle.service.specs.Encoding.{encoding, field_questions, frame_id_field, timestamp_field}
use Rattle.service.specs.Map.{map_of, map_questions}
use Rattle.service.specs.Writing.{writing, writing_questions}
use Rattle.service.specs.declared.header.SyncHeader.{SyncHeader}
use Rattle.service.proofs.Asked.{answered}
use Rattle.wording.specs.Answers.{refused_line, written_line, wrote_line}

frame_id_fits : (n : Option ℕ) → length (frame_id_field n) ≤ 1
frame_id_fits None = omega arith
frame_id_fits (Some n) = omega arith

timestamp_fits : (n : Option ℕ) → length (timestamp_field n) ≤ 4
timestamp_fits None = omega arith
timestamp_fits (Some n) = omega arith

encoding_fits : (h : SyncHeader) (payload : List ℕ) → length (encoding h payload) ≤ length payload + 6
encoding_fits h payload =
    omega (
      arith,
      length-append (frame_id_field h.frame_id ++ timestamp_field h.timestamp) payload,
      length-append (frame_id_field h.frame_id) (timestamp_field h.timestamp),
      frame_id_fits h.frame_id,
      timestamp_fits h.timestamp,
    )

long_enough : (size n m : ℕ) → size ≤ m → nat_le size (min n m) ≡ nat_le size n
long_enough size n m fits = grind (arith, nat_tests)

-- what is asked of the buffer is answered alike
alike : (h : SyncHeader) (payload : List ℕ) (n : ℕ) → writing h payload (min n (length payload + 6)) ≡ writing h payload n
alike h payload n =
    let size = length (encoding h payload) in
    ap (λ (b : Bool). ask (map_questions (map_of h) ++ ((34, nat_le 1 (length payload)) ∷ (field_questions h ++ ((36, b) ∷ [])))) size)
    (long_enough size n (length payload + 6) (encoding_fits h payload))

pub told_written : (h : SyncHeader) (payload : List ℕ) (n end : ℕ) (old new text : List ℕ)
    → writing h payload (min n (length payload + 6)) ≡ Ok end → new ≡ encoding h payload ++ drop (length (encoding h payload)) old
    → text ≡ wrote_line (take end new) → text ≡ written_line (writing h payload n) (encoding h payload)
told_written h payload n end old new text writes is told =
    let bytes = encoding h payload in
    let size : length bytes ≡ end = (answered (writing_questions h payload (min n (length payload + 6))) (length bytes) end writes).1 in
    let whole : take end new ≡ bytes =
    ap (λ (l : List ℕ). take end l) is ∙ ap (λ (k : ℕ). take k (bytes ++ drop (length bytes) old)) (sym size) ∙ take-append_seam bytes (drop (length bytes) old) in
    told ∙ ap wrote_line whole ∙ ap (λ (r : Result ℕ ℕ). written_line r bytes) (sym writes ∙ alike h payload n)

pub told_refused : (h : SyncHeader) (payload : List ℕ) (n number : ℕ) (text : List ℕ)
    → writing h payload (min n (length payload + 6)) ≡ Err number → text ≡ refused_line number
    → text ≡ written_line (writing h payload n) (encoding h payload)
told_refused h payload n number text refuses told =
    told ∙ ap (λ (r : Result ℕ ℕ). written_line r (encoding h payload)) (sym refuses ∙ alike h payload n)
