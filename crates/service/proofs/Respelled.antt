-- What a packet is read as spells the packet again.
use Rattle.std.proofs.Common.{◌≡◌, ℕ, suc, ◌+◌, ◌*◌, ◌/◌, ◌%◌, ◌^◌, ◌<◌, ◌≤◌, Bool, true, false, cond, not, ◌&&◌, leb, List, [], ◌∷◌, ◌++◌, length, get_or, take, drop, is_some, None, Ok, Err, Option, Result, sym, refl, ap, ◌∙◌, subst, inl, inr, arith, lit<, length-drop}
use Rattle.std.proofs.lemmas.Nat.{shr_high, mod_low}
use Rattle.std.proofs.lemmas.List.{get_or-drop, get_or_past, get_or-take}
use Rattle.std.proofs.lemmas.Bool.{leb-true, and_parts, not-true, cases_lt}
use Rattle.service.specs.Asking.{Question, AllYes}
use Rattle.service.specs.Encoding.{four_bytes, from_four, frame_id_field, timestamp_field, encoding, field_questions}
use Rattle.service.specs.Map.{bit, map_at, map_byte, map_of, map_questions, header_length}
use Rattle.service.specs.Reading.{present, timestamp_at, frame_id_within, timestamp_within, facts_within, questions_by, reading}
use Rattle.service.specs.Serving.{refusal_in}
use Rattle.service.specs.Spelling.{Bytes, Below, Fit, Spells, AdmitsExactly}
use Rattle.service.specs.declared.header.SyncHeader.{SyncHeader}
use Rattle.service.specs.declared.map.HeaderMap.{HeaderMap}
use Rattle.service.proofs.Asked.{answered, yes_first, yes_parts}
use Rattle.service.proofs.Lawfully.{none_below, some_below, yes_lawful}
use Rattle.service.proofs.Maps.{byte_back}
use Rattle.service.proofs.Spelled.{spelled_read}

-- past the end of a list of bytes its elements read as 0
abbrev AtMost255 : List ℕ → Type 0
AtMost255 s = (k : ℕ) → get_or s k 0 < 256

all_bytes : (s : List ℕ) → Bytes s → AtMost255 s
all_bytes s h k =
    elim (cases_lt k (length s)) [ inl lt ↦ h k lt | inr le ↦ omega (arith, get_or_past s k 0 le) ]

-- the digit to the base 256 that stands above the k lowest bits
digit : (n high mid k low : ℕ) → n ≡ (high * 256 + mid) * 2 ^ k + low → low < 2 ^ k → mid < 256 → n / 2 ^ k % 256 ≡ mid
digit n high mid k low e l m =
    ap (λ (x : ℕ). x / 2 ^ k % 256) e ∙ ap (λ (x : ℕ). x % 256) (shr_high (high * 256 + mid) k low l) ∙ mod_low high 8 mid m

-- four bytes are those of their number
four_back : (l : List ℕ) → 4 ≤ length l → AtMost255 l → four_bytes (from_four (take 4 l)) ++ drop 4 l ≡ l
four_back [] h f = absurd (omega arith)
four_back (a ∷ []) h f = absurd (omega arith)
four_back (a ∷ b ∷ []) h f = absurd (omega arith)
four_back (a ∷ b ∷ c ∷ []) h f = absurd (omega arith)
four_back (a ∷ b ∷ c ∷ d ∷ l) h f =
    let n : ℕ = a + b * 256 + c * 65536 + d * 16777216 in
    let fa : a < 256 = f 0 in
    let fb : b < 256 = f 1 in
    let fc : c < 256 = f 2 in
    let fd : d < 256 = f 3 in
    let e₀ : n % 256 ≡ a = omega arith in
    let e₁ = digit n (c + d * 256) b 8 a (omega arith) (omega arith) fb in
    let e₂ = digit n d c 16 (a + b * 256) (omega arith) (omega arith) fc in
    let e₃ = digit n 0 d 24 (a + b * 256 + c * 65536) (omega arith) (omega arith) fd in
    rw (e₀, e₁, e₂, e₃) refl

taken_byte : (l : List ℕ) → AtMost255 l → (k : ℕ) → k < 4 → get_or (take 4 l) k 0 < 256
taken_byte l f k h = rw get_or-take (f k)

word_below : (l : List ℕ) → AtMost255 l → from_four (take 4 l) < 2 ^ 32
word_below l f =
    let f₀ = taken_byte l f 0 (lit< tt) in
    let f₁ = taken_byte l f 1 (lit< tt) in
    let f₂ = taken_byte l f 2 (lit< tt) in
    let f₃ = taken_byte l f 3 (lit< tt) in
    omega arith

-- the named fields and what follows them are the rest of the packet
fields_back : (f t : Bool) (byte : ℕ) (s : List ℕ) → AtMost255 s → 1 + cond f 1 0 + cond t 4 0 ≤ length (byte ∷ s)
    → (frame_id_field (present f (get_or (byte ∷ s) 1 0)) ++ timestamp_field (present t (from_four (take 4 (drop (1 + cond f 1 0) (byte ∷ s))))))
    ++ drop (1 + cond f 1 0 + cond t 4 0) (byte ∷ s)
    ≡ s
fields_back false false byte s bytes h = refl
fields_back true false byte [] bytes h = absurd (omega arith)
fields_back true false byte (x ∷ s) bytes h = refl
fields_back false true byte s bytes h = four_back s (omega arith) bytes
fields_back true true byte [] bytes h = absurd (omega arith)
fields_back true true byte (x ∷ s) bytes h =
    ap (λ (l : List ℕ). x ∷ l) (four_back s (omega arith) (λ k. bytes (suc k)))

present_some : (b : Bool) (n : ℕ) → is_some (present b n) ≡ b
present_some true n = refl
present_some false n = refl

present_below : (b : Bool) (n limit : ℕ) → n < limit → Below limit (present b n)
present_below true n limit h = some_below n limit h
present_below false n limit h = none_below limit

abbrev map_with : HeaderMap → Bool → Bool → HeaderMap
map_with m f t =
    record {
      kind = m.kind;
      frame_id = f;
      timestamp = t;
      access_point = m.access_point;
      unreferenced = m.unreferenced;
    }

-- the facts that are read have the map by which they are read
map_kept : (m : HeaderMap) (s : List ℕ) → map_of (facts_within m s) ≡ m
map_kept m s =
    ap (λ (b : Bool). map_with m b (is_some (timestamp_within m s))) (present_some m.frame_id (get_or s 1 0))
    ∙ ap (λ (b : Bool). map_with m m.frame_id b)
    (present_some m.timestamp (from_four (take 4 (drop (timestamp_at m) s))))

-- facts that are read of bytes fit
facts_fit : (m : HeaderMap) (s : List ℕ) → AtMost255 s → Fit (facts_within m s)
facts_fit m s bytes =
    let rest = drop (timestamp_at m) s in (
      present_below m.frame_id (get_or s 1 0) 256 (bytes 1),
      present_below m.timestamp (from_four (take 4 rest)) (2 ^ 32)
          (word_below rest (λ k. rw get_or-drop (bytes (timestamp_at m + k)))),
    )

abbrev fields_of : HeaderMap → List ℕ → List ℕ
fields_of m s = (frame_id_field (frame_id_within m s) ++ timestamp_field (timestamp_within m s)) ++ drop (header_length m) s

-- what is read of a packet, encoded, is that packet
encoded_back : (byte : ℕ) (s : List ℕ) → AtMost255 (byte ∷ s) → map_byte (map_at byte) ≡ byte
    → header_length (map_at byte) < length (byte ∷ s)
    → encoding (facts_within (map_at byte) (byte ∷ s)) (drop (header_length (map_at byte)) (byte ∷ s)) ≡ byte ∷ s
encoded_back byte s bytes back fits =
    let m = map_at byte in
    let fields = fields_back m.frame_id m.timestamp byte s (λ k. bytes (suc k)) (omega arith) in
    ap (λ (x : ℕ). x ∷ fields_of m (byte ∷ s)) (ap map_byte (map_kept m (byte ∷ s)) ∙ back) ∙ ap (λ (l : List ℕ). byte ∷ l) fields

-- the questions of a reading, each answered yes
record Yeses (byte : ℕ) (m : HeaderMap) (s : List ℕ) : Type 0 where
  q₃₀ : 1 ≤ length s
  q₃₁ : (bit 7 byte ≡ false) × (bit 8 byte ≡ false)
  maps : AllYes (map_questions m)
  q₃₄ : header_length m < length s
  fields : AllYes (field_questions (facts_within m s))

yeses : (byte : ℕ) (m : HeaderMap) (s : List ℕ) → AllYes (questions_by byte m s) → Yeses byte m s
yeses byte m s all =
    let fields = field_questions (facts_within m s) in
    let a₃₄ : Question = (34, leb (header_length m + 1) (length s)) in
    let a₃₁ : Question = (31, not (bit 7 byte) && not (bit 8 byte)) in
    let y₃₀ = yes_first (30, leb 1 (length s)) (a₃₁ ∷ (map_questions m ++ (a₃₄ ∷ fields))) all in
    let y₃₁ = yes_first a₃₁ (map_questions m ++ (a₃₄ ∷ fields)) y₃₀.1 in
    let parts = yes_parts (map_questions m) (a₃₄ ∷ fields) y₃₁.1 in
    let y₃₄ = yes_first a₃₄ fields parts.1 in
    let clear = and_parts (not (bit 7 byte)) (not (bit 8 byte)) y₃₁.0 in
    record {
      q₃₀ = leb-true 1 (length s) y₃₀.0;
      q₃₁ = (not-true (bit 7 byte) clear.0, not-true (bit 8 byte) clear.1);
      maps = parts.0;
      q₃₄ = omega (arith, leb-true (header_length m + 1) (length s) y₃₄.0);
      fields = y₃₄.1;
    }

read_facts : (s : List ℕ) → Bytes s → Yeses (get_or s 0 0) (map_at (get_or s 0 0)) s
    → Spells s (facts_within (map_at (get_or s 0 0)) s) (drop (header_length (map_at (get_or s 0 0))) s)
read_facts [] bytes y = absurd (omega (arith, y.q₃₀))
read_facts (byte ∷ s) bytes y =
    let all = all_bytes (byte ∷ s) bytes in
    let m = map_at byte in
    let maps : AllYes (map_questions (map_of (facts_within m (byte ∷ s)))) =
    subst (λ (k : HeaderMap). AllYes (map_questions k)) (sym (map_kept m (byte ∷ s))) y.maps in
    record {
      lawful = yes_lawful (facts_within m (byte ∷ s)) (facts_fit m (byte ∷ s) all) maps y.fields;
      some = simp length-drop (omega (arith, y.q₃₄));
      whole = sym (encoded_back byte s all (byte_back byte (all 0) y.q₃₁.0 y.q₃₁.1) y.q₃₄);
    }

pub read_spelled : (s : List ℕ) → Bytes s → (h : SyncHeader) (payload : List ℕ)
    → reading s ≡ Ok (h, payload) → Spells s h payload
read_spelled s bytes h payload e =
    let byte = get_or s 0 0 in
    let m = map_at byte in
    let told = answered (questions_by byte m s) (facts_within m s, drop (header_length m) s) (h, payload) e in
    subst (λ (a : SyncHeader × List ℕ). Spells s a.0 a.1) told.1 (read_facts s bytes (yeses byte m s told.0))

-- a packet is admitted exactly where it spells a header and a payload
pub admits_exactly : (s : List ℕ) → Bytes s → (v : Option ℕ) → v ≡ refusal_in (reading s) → AdmitsExactly s v
admits_exactly s bytes v is = (
  admitted (reading s) (λ h payload e. read_spelled s bytes h payload e) v is,
  (λ h payload sp. is ∙ ap (λ (r : Result (SyncHeader × List ℕ) ℕ). refusal_in r) (spelled_read s h payload sp)),
)
  where
    admitted : (r : Result (SyncHeader × List ℕ) ℕ)
        → ((h : SyncHeader) (payload : List ℕ) → r ≡ Ok (h, payload) → Spells s h payload)
        → (v : Option ℕ) → v ≡ refusal_in r → v ≡ None → (h : SyncHeader) × (payload : List ℕ) × Spells s h payload
    admitted (Ok a) spelled v is none = (a.0, a.1, spelled a.0 a.1 refl)
    admitted (Err n) spelled v is none = cc (sym none ∙ is)
