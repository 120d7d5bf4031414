-- A packet is read as exactly the header and the payload that it spells.
use Rattle.std.proofs.Common.{◌≡◌, ℕ, ◌+◌, ◌*◌, ◌/◌, ◌%◌, ◌^◌, ◌<◌, Bool, cond, List, ◌∷◌, ◌++◌, length, get_or, take, drop, is_some, Some, None, Ok, Option, Result, sym, refl, ap, ◌∙◌, subst, mod-eq_of_lt, arith, length-append}
use Rattle.std.proofs.lemmas.Nat.{shr-shr, shr_split, shr_below}
use Rattle.std.proofs.lemmas.List.{drop_at}
use Rattle.service.specs.Asking.{AllYes}
use Rattle.service.specs.Encoding.{four_bytes, from_four, frame_id_field, timestamp_field, header_bytes, encoding, field_questions}
use Rattle.service.specs.Map.{map_byte, map_of, header_length}
use Rattle.service.specs.Reading.{present, timestamp_within, facts_within, read_by, reading}
use Rattle.service.specs.Spelling.{Below, Lawful, Spells, OneMeaning}
use Rattle.service.specs.declared.header.Kind.{Kind}
use Rattle.service.specs.declared.header.SyncHeader.{SyncHeader}
use Rattle.service.specs.declared.map.HeaderMap.{HeaderMap}
use Rattle.service.proofs.Lawfully.{lawful_map, lawful_fields}
use Rattle.service.proofs.Maps.{map_back, spare_bits}
use Rattle.service.proofs.Puts.{header_long}
use Rattle.service.proofs.Whole.{read_yes}

-- four bytes and their number
digits : (t a b d r₀ r₁ r₂ r₃ : ℕ) → a * 256 + r₀ ≡ t → b * 256 + r₁ ≡ a → d * 256 + r₂ ≡ b → r₃ ≡ d
    → r₀ + r₁ * 256 + r₂ * 65536 + r₃ * 16777216 ≡ t
digits t a b d r₀ r₁ r₂ r₃ e₁ e₂ e₃ e₄ = omega arith

pub number_back : (t : ℕ) → t < 2 ^ 32 → from_four (four_bytes t) ≡ t
number_back t h =
    let e₂ = ap (λ (n : ℕ). n * 256 + t / 256 % 256) (sym (shr-shr t 8 8)) ∙ shr_split (t / 256) 8 in
    let e₃ = ap (λ (n : ℕ). n * 256 + t / 65536 % 256) (sym (shr-shr t 16 8)) ∙ shr_split (t / 65536) 8 in
    digits t (t / 256) (t / 65536) (t / 16777216) (t % 256) (t / 256 % 256) (t / 65536 % 256) (t / 16777216 % 256)
    (shr_split t 8) e₂ e₃ (mod-eq_of_lt (shr_below t 8 24 h))

-- the fields of an encoding, read back
frame_id_back : (id time : Option ℕ) (byte : ℕ) (payload : List ℕ)
    → present (is_some id) (get_or ((byte ∷ (frame_id_field id ++ timestamp_field time)) ++ payload) 1 0) ≡ id
frame_id_back None time byte payload = refl
frame_id_back (Some n) time byte payload = refl

timestamp_back : (id time : Option ℕ) (byte : ℕ) (payload : List ℕ) → Below (2 ^ 32) time
    → present (is_some time) (from_four (take 4 (drop (1 + cond (is_some id) 1 0) ((byte ∷ (frame_id_field id ++ timestamp_field time)) ++ payload))))
    ≡ time
timestamp_back id None byte payload fits = refl
timestamp_back None (Some t) byte payload fits = ap Some (number_back t (fits t refl))
timestamp_back (Some n) (Some t) byte payload fits = ap Some (number_back t (fits t refl))

abbrev facts : Kind → Option ℕ → Option ℕ → Bool → Bool → SyncHeader
facts k id time a u =
    record { kind = k; frame_id = id; timestamp = time; access_point = a; unreferenced = u }

facts_back : (h : SyncHeader) (payload : List ℕ) → Below (2 ^ 32) h.timestamp
    → facts_within (map_of h) (encoding h payload) ≡ h
facts_back h payload fits =
    let s : List ℕ = encoding h payload in
    ap (λ (o : Option ℕ). facts h.kind o (timestamp_within (map_of h) s) h.access_point h.unreferenced)
    (frame_id_back h.frame_id h.timestamp (map_byte (map_of h)) payload)
    ∙ ap (λ (o : Option ℕ). facts h.kind h.frame_id o h.access_point h.unreferenced)
    (timestamp_back h.frame_id h.timestamp (map_byte (map_of h)) payload fits)

-- The packet that a lawful header and a payload make is read as these.
pub encoded_read : (h : SyncHeader) (payload : List ℕ) → Lawful h → 0 < length payload
    → reading (encoding h payload) ≡ Ok (h, payload)
encoded_read h payload l some =
    let s : List ℕ = encoding h payload in
    let m = map_of h in
    let byte = map_byte m in
    let long : length s ≡ header_length m + length payload =
    length-append (header_bytes h) payload ∙ ap (λ (n : ℕ). n + length payload) (header_long h) in
    let back = facts_back h payload l.fits.1 in
    let fields : AllYes (field_questions (facts_within m s)) =
    subst (λ (k : SyncHeader). AllYes (field_questions k)) (sym back) (lawful_fields h l) in
    let yes = read_yes byte m s (omega arith) (spare_bits m).0 (spare_bits m).1 (lawful_map h l) (omega arith) fields in
    ap (λ (m : HeaderMap). read_by byte m s) (map_back m)
    ∙ yes
    ∙ ap (λ (k : SyncHeader). Ok (k, drop (header_length m) s)) back
    ∙ ap (λ (p : List ℕ). Ok (h, p)) (drop_at (header_bytes h) payload (header_length m) (header_long h))

pub spelled_read : (s : List ℕ) (h : SyncHeader) (payload : List ℕ) → Spells s h payload → reading s ≡ Ok (h, payload)
spelled_read s h payload sp = ap reading sp.whole ∙ encoded_read h payload sp.lawful sp.some

pub one_meaning : (s : List ℕ) → OneMeaning s
one_meaning s h k payload other a b =
    let same : ◌≡◌ {A = Result (SyncHeader × List ℕ) ℕ} (Ok (h, payload)) (Ok (k, other)) = sym (spelled_read s h payload a) ∙ spelled_read s k other b in
    let pair : ◌≡◌ {A = SyncHeader × List ℕ} (h, payload) (k, other) = cc in
    (ap (λ (p : SyncHeader × List ℕ). p.0) pair, ap (λ (p : SyncHeader × List ℕ). p.1) pair)
