-- The reader's standing against the writer's, and that everything sent in a fair run keeps it.
use Rattle.std.proofs.Common.{◌≡◌, ℕ, ◌+◌, ◌≤◌, Bool, true, false, cond, not, ◌&&◌, ◌||◌, eqb, List, [], ◌∷◌, ◌++◌, map, length, take, drop, Some, None, Option, sym, refl, ap, ◌∙◌, subst, arith}
use Rattle.std.specs.List.{flat_map}
use Rattle.std.proofs.lemmas.List.{append_assoc, append-nil, map-append, length-append, length-take, length-drop}
use Rattle.std.proofs.lemmas.Bool.{and_left, and_right, eq-eqb}
use Rattle.framing.specs.declared.frame.Frame.{Frame}
use Rattle.framing.specs.declared.slot.Slot.TheVariants as slot
use Rattle.framing.specs.Fragments.{Fragment, body, notional, padding}
use Rattle.receiver.specs.Reading.{Standing, aligned, gathering, seeking, after_one, completed, after_all, listed, completes}
use Rattle.runlaw.specs.Packets.{Piece, piece_of, still_begun, as_received, or_none, is_here, all_came, start_known, is_clear, clear_only}
use Rattle.runlaw.specs.Writing.{stands_after_one, stands_after_all}
use Rattle.runlaw.proofs.Folds.{begun_append, clear_from, clear_append}
use Rattle.runlaw.proofs.Fates.{as_in}
use Rattle.runlaw.proofs.Rows.{Rest, Row}

-- 1. One piece more at the end of a packet that has begun.

abbrev pub arrived : (cut came : List ℕ) (ends knowable : Bool) → Piece
arrived c g l k = record { cut = c; came = Some g; ends = l; knowable = k }

abbrev pub vanished : (cut : List ℕ) (ends knowable : Bool) → Piece
vanished c l k = record { cut = c; came = None; ends = l; knowable = k }

all_came_more : (b : List Piece) (c g : List ℕ) (l k : Bool) → all_came (b ++ (arrived c g l k ∷ [])) ≡ all_came b
all_came_more [] c g l k = refl
all_came_more (q ∷ b) c g l k = ap (λ x. is_here q.came && x) (all_came_more b c g l k)

as_received_more : (b : List Piece) (c g : List ℕ) (l k : Bool) → as_received (b ++ (arrived c g l k ∷ [])) ≡ as_received b ++ g
as_received_more [] c g l k = append-nil g
as_received_more (q ∷ b) c g l k = ap (λ x. or_none q.came ++ x) (as_received_more b c g l k) ∙ sym (append_assoc (or_none q.came) (as_received b) g)

is_clear_more : (q : Piece) (b : List Piece) (c g : List ℕ) (l k : Bool) → is_clear ((q ∷ b) ++ (arrived c g l k ∷ [])) ≡ is_clear (q ∷ b)
is_clear_more q b c g l k = ap (λ x. (is_here q.came && x) && q.knowable) (all_came_more b c g l k)

not_all_came : (b : List Piece) (c : List ℕ) (l k : Bool) → all_came (b ++ (vanished c l k ∷ [])) ≡ false
not_all_came [] c l k = refl
not_all_came (q ∷ b) c l k = and_right (is_here q.came) (all_came (b ++ (vanished c l k ∷ []))) (not_all_came b c l k)

not_clear : (b : List Piece) (c : List ℕ) (l k : Bool) → is_clear (b ++ (vanished c l k ∷ [])) ≡ false
not_clear b c l k = and_left (all_came (b ++ (vanished c l k ∷ []))) (start_known (b ++ (vanished c l k ∷ []))) (not_all_came b c l k)

-- 2. The invariant: where the writer stands; whether a packet that begins with the next fragment begins knowably; then how
-- the reader stands, and the pieces of the packet that has begun.

pub data Tuned : Option ℕ → Bool → Standing → List Piece → Type 0 where
  between : Tuned None true aligned []
  astray : Tuned None false seeking []
  holding : {n : ℕ} {known : Bool} {q : Piece} {b : List Piece} → n ≡ length (as_received (q ∷ b)) → is_clear (q ∷ b) ≡ true → Tuned (Some n) known (gathering (as_received (q ∷ b))) (q ∷ b)
  skipping : {n : ℕ} {known : Bool} {q : Piece} {b : List Piece} → is_clear (q ∷ b) ≡ false → Tuned (Some n) known seeking (q ∷ b)

-- the bytes as received of the clear packets that some pieces end
abbrev pub due : List Piece → List Piece → List (List ℕ)
due b xs = map as_received (clear_from b xs)

pub due_append : (b xs ys : List Piece) → due b (xs ++ ys) ≡ due b xs ++ due (still_begun b xs) ys
due_append b xs ys = ap (map as_received) (clear_append b xs ys) ∙ map-append as_received (clear_from b xs) (clear_from (still_begun b xs) ys)

-- over the pieces `xs` the reader completes what is due, and is in tune after them
pub record Keeps (said : List (List ℕ)) (r : Standing) (b xs : List Piece) (at : Option ℕ) (known : Bool) : Type 0 where
  pub same : said ≡ due b xs
  pub tuned : Tuned at known r (still_begun b xs)

join : {a₁ a₂ : List (List ℕ)} {r₁ r₂ : Standing} {b xs ys : List Piece} {i₁ i₂ : Option ℕ} {k₁ k₂ : Bool}
    → Keeps a₁ r₁ b xs i₁ k₁ → Keeps a₂ r₂ (still_begun b xs) ys i₂ k₂ → Keeps (a₁ ++ a₂) r₂ b (xs ++ ys) i₂ k₂
join {a₁} {a₂} {r₁} {r₂} {b} {xs} {ys} {i₁} {i₂} {k₁} {k₂} m n = record {
  same = ap (λ x. x ++ a₂) m.same ∙ ap (λ x. due b xs ++ x) n.same ∙ sym (due_append b xs ys);
  tuned = subst (Tuned i₂ k₂ r₂) (sym (begun_append b xs ys)) n.tuned;
}

-- 3. One body.

-- where the packet that a piece ends is clear, or not, what is due is its bytes, or nothing
due_clear : (b : List Piece) (c g : List ℕ) (k : Bool) → is_clear (b ++ (arrived c g true k ∷ [])) ≡ true → due b (arrived c g true k ∷ []) ≡ (as_received b ++ g) ∷ []
due_clear b c g k e =
    let w = b ++ (arrived c g true k ∷ []) in
    ap (λ x. map as_received (cond x (w ∷ []) [])) e ∙ ap (λ x. x ∷ []) (as_received_more b c g true k)

due_spoilt : (b : List Piece) (q : Piece) → q.ends ≡ true → is_clear (b ++ (q ∷ [])) ≡ false → due b (q ∷ []) ≡ []
due_spoilt b q l e =
    let w = b ++ (q ∷ []) in
    ap (λ x. map as_received (clear_only (cond x (w ∷ []) []))) l ∙ ap (λ x. map as_received (cond x (w ∷ []) [])) e

holds : {n : ℕ} {known : Bool} {g : List ℕ} (q : Piece) (b : List Piece) → as_received (q ∷ b) ≡ g → n ≡ length g → is_clear (q ∷ b) ≡ true → Tuned (Some n) known (gathering g) (q ∷ b)
holds {n} {known} {g} q b e m c = subst (λ x. Tuned (Some n) known (gathering x) (q ∷ b)) e (holding (m ∙ ap length (sym e)) c)

length_more : (n : ℕ) (a c g : List ℕ) → n ≡ length a → length g ≡ length c → n + length c ≡ length (a ++ g)
length_more n a c g m own = simp length-append (omega arith)

body_came : {at : Option ℕ} {k : Bool} {r : Standing} {b : List Piece} → Tuned at k r b → (p : ℕ) (c g : List ℕ) (l : Bool) → length g ≡ length c
    → Keeps (listed (completed r (body p g l))) (after_one r (body p g l)) b (arrived c g l k ∷ []) (stands_after_one at (body p c l)) true
body_came between p c g true own = record { same = sym (due_clear [] c g true refl); tuned = between }
body_came between p c g false own = record { same = refl; tuned = holds _ _ (append-nil g) (sym own) refl }
body_came astray p c g true own = record { same = refl; tuned = between }
body_came astray p c g false own = record { same = refl; tuned = skipping refl }
body_came (holding {known = k} {q = q} {b = b} m e) p c g true own = record { same = sym (due_clear (q ∷ b) c g k (is_clear_more q b c g true k ∙ e)); tuned = between }
body_came (holding {n = n} {known = k} {q = q} {b = b} m e) p c g false own = record {
  same = refl;
  tuned = holds q (b ++ (arrived c g false k ∷ [])) (as_received_more (q ∷ b) c g false k) (length_more n (as_received (q ∷ b)) c g m own) (is_clear_more q b c g false k ∙ e);
}
body_came (skipping {known = k} {q = q} {b = b} e) p c g true own = record { same = sym (due_spoilt (q ∷ b) (arrived c g true k) refl (is_clear_more q b c g true k ∙ e)); tuned = between }
body_came (skipping {known = k} {q = q} {b = b} e) p c g false own = record { same = refl; tuned = skipping (is_clear_more q b c g false k ∙ e) }

body_lost : {at : Option ℕ} {k : Bool} {r : Standing} {b : List Piece} → Tuned at k r b → (p : ℕ) (c : List ℕ) (l j : Bool)
    → Keeps [] seeking b (vanished c l j ∷ []) (stands_after_one at (body p c l)) false
body_lost between p c true j = record { same = refl; tuned = astray }
body_lost between p c false j = record { same = refl; tuned = skipping refl }
body_lost astray p c true j = record { same = refl; tuned = astray }
body_lost astray p c false j = record { same = refl; tuned = skipping refl }
body_lost (holding {q = q} {b = b} m e) p c true j = record { same = sym (due_spoilt (q ∷ b) (vanished c true j) refl (not_clear (q ∷ b) c true j)); tuned = astray }
body_lost (holding {q = q} {b = b} m e) p c false j = record { same = refl; tuned = skipping (not_clear (q ∷ b) c false j) }
body_lost (skipping {q = q} {b = b} e) p c true j = record { same = sym (due_spoilt (q ∷ b) (vanished c true j) refl (not_clear (q ∷ b) c true j)); tuned = astray }
body_lost (skipping {q = q} {b = b} e) p c false j = record { same = refl; tuned = skipping (not_clear (q ∷ b) c false j) }

-- 4. The fragments of a frame that came: first those behind its first, then all.

pub own_length : (g : List ℕ) (place : ℕ) (c : List ℕ) → length g ≡ 122 → place + length c ≤ 122 → length (take (length c) (drop place g)) ≡ length c
own_length g place c whole within = simp (length-take, length-drop) (omega arith)

-- the knowledge of a start that a fragment's place gives
known_later : (place : ℕ) (known : Bool) → eqb place 1 ≡ false → (not (eqb place 1) || known) ≡ true
known_later place known e = ap (λ x. not x || known) e

known_first : (place : ℕ) (known : Bool) → place ≡ 1 → (not (eqb place 1) || known) ≡ known
known_first place known e = ap (λ x. not x || known) (eq-eqb place 1 e)

abbrev pub Came : (known : Bool) (g : Frame) (at : Option ℕ) (r : Standing) (b : List Piece) → List Fragment → Type 0
Came known g at r b fs =
    Keeps (completes r (map (as_in g.bytes) fs)) (after_all r (map (as_in g.bytes) fs)) b (flat_map (piece_of known (slot.Frame g)) fs) (stands_after_all at fs) true

-- where no packet is begun, padding aligns the reader
padded : {at : Option ℕ} {k : Bool} {r : Standing} {b : List Piece} → Tuned at k r b → (p : ℕ) → at ≡ None → Tuned at true (after_one r (padding p)) b
padded between p e = between
padded astray p e = between
padded (holding m c) p e = let z : ◌≡◌ {A = ℕ} 0 1 = cc in absurd (omega arith)
padded (skipping c) p e = let z : ◌≡◌ {A = ℕ} 0 1 = cc in absurd (omega arith)

rest_came : (known : Bool) (g : Frame) → length g.bytes ≡ 122 → (fs : List Fragment) {at : Option ℕ} {r : Standing} {b : List Piece} → Tuned at true r b → Rest at fs → Came known g at r b fs
rest_came known g whole [] t ok = record { same = refl; tuned = t }
rest_came known g whole (body p c l ∷ fs) {at} {r} {b} t ok =
    let got = take (length c) (drop p g.bytes) in
    let m = subst (λ k. Keeps (listed (completed r (body p got l))) (after_one r (body p got l)) b (arrived c got l k ∷ []) (stands_after_one at (body p c l)) true)
    (sym (known_later p known ok.0)) (body_came t p c got l (own_length g.bytes p c whole ok.1)) in
    join m (rest_came known g whole fs m.tuned ok.2)
rest_came known g whole (notional p ∷ fs) t ok = rest_came known g whole fs t ok
rest_came known g whole (padding p ∷ fs) t ok = rest_came known g whole fs (padded t p ok.0) ok.1

pub frame_came : (known : Bool) (g : Frame) → length g.bytes ≡ 122 → (fs : List Fragment) {at : Option ℕ} {r : Standing} {b : List Piece} → Tuned at known r b → Row at fs → Came known g at r b fs
frame_came known g whole [] t ok = absurd ok
frame_came known g whole (body p c l ∷ fs) {at} {r} {b} t ok =
    let got = take (length c) (drop p g.bytes) in
    let m = subst (λ k. Keeps (listed (completed r (body p got l))) (after_one r (body p got l)) b (arrived c got l k ∷ []) (stands_after_one at (body p c l)) true)
    (sym (known_first p known ok.0)) (body_came t p c got l (own_length g.bytes p c whole ok.1)) in
    join m (rest_came known g whole fs m.tuned ok.2)
frame_came known g whole (notional p ∷ fs) t ok = absurd ok
frame_came known g whole (padding p ∷ fs) t ok = rest_came known g whole fs (padded t p ok.0) ok.1

-- 5. The fragments of a frame that was lost.

abbrev pub Lost : (known : Bool) (at : Option ℕ) (b : List Piece) → List Fragment → Type 0
Lost known at b fs = Keeps [] seeking b (flat_map (piece_of known slot.Gap) fs) (stands_after_all at fs) false

rest_lost : (known : Bool) (fs : List Fragment) {at : Option ℕ} {b : List Piece} → Tuned at false seeking b → Lost known at b fs
rest_lost known [] t = record { same = refl; tuned = t }
rest_lost known (body p c l ∷ fs) t = let m = body_lost t p c l (not (eqb p 1) || known) in join m (rest_lost known fs m.tuned)
rest_lost known (notional p ∷ fs) t = rest_lost known fs t
rest_lost known (padding p ∷ fs) t = rest_lost known fs t

-- where no packet is begun, a lost frame leaves the reader astray
strayed : {at : Option ℕ} {k : Bool} {r : Standing} {b : List Piece} → Tuned at k r b → at ≡ None → Tuned at false seeking b
strayed between e = astray
strayed astray e = astray
strayed (holding m c) e = let z : ◌≡◌ {A = ℕ} 0 1 = cc in absurd (omega arith)
strayed (skipping c) e = let z : ◌≡◌ {A = ℕ} 0 1 = cc in absurd (omega arith)

pub frame_lost : (known : Bool) (fs : List Fragment) {at : Option ℕ} {r : Standing} {b : List Piece} → Tuned at known r b → Row at fs → Lost known at b fs
frame_lost known [] t ok = absurd ok
frame_lost known (body p c l ∷ fs) t ok = let m = body_lost t p c l (not (eqb p 1) || known) in join m (rest_lost known fs m.tuned)
frame_lost known (notional p ∷ fs) t ok = absurd ok
frame_lost known (padding p ∷ fs) t ok = rest_lost known fs (strayed t ok.0)
