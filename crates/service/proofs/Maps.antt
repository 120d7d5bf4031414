-- A map and its byte: each is the other's only one.
use Rattle.std.proofs.Common.{◌≡◌, ℕ, zero, suc, ◌*◌, ◌%◌, ◌<◌, Bool, true, false, ◌&&◌, ◌||◌, eqb, sym, refl, ap, ◌∙◌}
use lib.Bits.{bit_or}
use mir.Val.{bool_byte}
use Rattle.std.proofs.lemmas.Bool.{and_parts, eqb-true}
use Rattle.std.proofs.lemmas.Bool.Decides.{Decides-below_and}
use Rattle.service.specs.Map.{bit, number_of_kind, kind_of, map_byte, map_at, same}
use Rattle.service.specs.declared.header.Kind.{Kind}
use Rattle.service.specs.declared.header.Kind.TheVariants.{Video, Audio, TimedData, Adaptation}
use Rattle.service.specs.declared.map.HeaderMap.{HeaderMap}

-- A test of both truth values, of the four kinds, of all 64 maps: what passes it holds of each.
abbrev both : (Bool → Bool) → Bool
both p = p true && p false

at_bool : (p : Bool → Bool) → both p ≡ true → (b : Bool) → p b ≡ true
at_bool p e true = (and_parts (p true) (p false) e).0
at_bool p e false = (and_parts (p true) (p false) e).1

abbrev four : (Kind → Bool) → Bool
four p = (p Video && p Audio) && (p TimedData && p Adaptation)

at_kind : (p : Kind → Bool) → four p ≡ true → (k : Kind) → p k ≡ true
at_kind p e Video = (and_parts (p Video) (p Audio) (and_parts (p Video && p Audio) (p TimedData && p Adaptation) e).0).0
at_kind p e Audio = (and_parts (p Video) (p Audio) (and_parts (p Video && p Audio) (p TimedData && p Adaptation) e).0).1
at_kind p e TimedData =
    (and_parts (p TimedData) (p Adaptation) (and_parts (p Video && p Audio) (p TimedData && p Adaptation) e).1).0
at_kind p e Adaptation =
    (and_parts (p TimedData) (p Adaptation) (and_parts (p Video && p Audio) (p TimedData && p Adaptation) e).1).1

abbrev map : Kind → Bool → Bool → Bool → Bool → HeaderMap
map k f t a u = record { kind = k; frame_id = f; timestamp = t; access_point = a; unreferenced = u }

abbrev every : (HeaderMap → Bool) → Bool
every p = four (λ k. both (λ f. both (λ t. both (λ a. both (λ u. p (map k f t a u))))))

pub at_map : (p : HeaderMap → Bool) → every p ≡ true → (m : HeaderMap) → p m ≡ true
at_map p e m =
    let k = m.kind in
    let f = m.frame_id in
    let t = m.timestamp in
    let a = m.access_point in
    let e₁ = at_kind (λ k. both (λ f. both (λ t. both (λ a. both (λ u. p (map k f t a u)))))) e k in
    let e₂ = at_bool (λ f. both (λ t. both (λ a. both (λ u. p (map k f t a u))))) e₁ f in
    let e₃ = at_bool (λ t. both (λ a. both (λ u. p (map k f t a u)))) e₂ t in
    let e₄ = at_bool (λ a. both (λ u. p (map k f t a u))) e₃ a in
    at_bool (λ u. p (map k f t a u)) e₄ m.unreferenced

-- the byte that shifts and ors put together
abbrev packed : HeaderMap → ℕ
packed m =
    bit_or
    (bit_or (number_of_kind m.kind) (bit_or (bool_byte m.frame_id * 4 % 256) (bool_byte m.timestamp * 8 % 256)))
    (bit_or (bool_byte m.access_point * 16 % 256) (bool_byte m.unreferenced * 32 % 256))

pub packed_is : (m : HeaderMap) → packed m ≡ map_byte m
packed_is m = eqb-true (packed m) (map_byte m) (at_map (λ m. eqb (packed m) (map_byte m)) refl m)

-- a map is what its byte says
pub same_true : (b c : Bool) → same b c ≡ true → b ≡ c
same_true true c e = sym e
same_true false true e = e
same_true false false e = refl

kind_back : (k : Kind) → kind_of (number_of_kind k) ≡ k
kind_back Video = refl
kind_back Audio = refl
kind_back TimedData = refl
kind_back Adaptation = refl

pub map_back : (m : HeaderMap) → map_at (map_byte m) ≡ m
map_back m =
    let b = map_byte m in
    let k : kind_of (b % 4) ≡ m.kind =
    ap kind_of (eqb-true (b % 4) (number_of_kind m.kind) (at_map (λ m. eqb (map_byte m % 4) (number_of_kind m.kind)) refl m))
    ∙ kind_back m.kind in
    let f = same_true (bit 3 b) m.frame_id (at_map (λ m. same (bit 3 (map_byte m)) m.frame_id) refl m) in
    let t = same_true (bit 4 b) m.timestamp (at_map (λ m. same (bit 4 (map_byte m)) m.timestamp) refl m) in
    let a = same_true (bit 5 b) m.access_point (at_map (λ m. same (bit 5 (map_byte m)) m.access_point) refl m) in
    let u = same_true (bit 6 b) m.unreferenced (at_map (λ m. same (bit 6 (map_byte m)) m.unreferenced) refl m) in
    let all : map (kind_of (b % 4)) (bit 3 b) (bit 4 b) (bit 5 b) (bit 6 b)
    ≡ map m.kind m.frame_id m.timestamp m.access_point m.unreferenced = cc in
    all

pub spare_bits : (m : HeaderMap) → (bit 7 (map_byte m) ≡ false) × (bit 8 (map_byte m) ≡ false)
spare_bits m = (
  same_true (bit 7 (map_byte m)) false (at_map (λ m. same (bit 7 (map_byte m)) false) refl m),
  same_true (bit 8 (map_byte m)) false (at_map (λ m. same (bit 8 (map_byte m)) false) refl m),
)

-- A test of the numbers below n, one after another.
abbrev all_below : (ℕ → Bool) → ℕ → Bool
all_below p zero = true
all_below p (suc n) = p n && all_below p n

at_number : (p : ℕ → Bool) (n : ℕ) → all_below p n ≡ true → (k : ℕ) → k < n → p k ≡ true
at_number p n e =
    (Decides-below_and p (λ k. p k ≡ true) (all_below p) (λ k. ((λ h. h), (λ h. h))) refl (λ n. refl) n).0 e

abbrev spare : ℕ → Bool
spare b = bit 7 b || bit 8 b

-- a byte whose two spare bits are clear is that of its map
pub byte_back : (b : ℕ) → b < 256 → bit 7 b ≡ false → bit 8 b ≡ false → map_byte (map_at b) ≡ b
byte_back b h e₇ e₈ =
    let told : (spare b || eqb (map_byte (map_at b)) b) ≡ true =
    at_number (λ b. spare b || eqb (map_byte (map_at b)) b) 256 refl b h in
    eqb-true (map_byte (map_at b)) b (rw (e₇, e₈) at told)
