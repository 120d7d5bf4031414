-- Laws of what went onto a channel.
use Rattle.std.proofs.Common.{◌≡◌, ℕ, ◌+◌, ◌<◌, false, ltb, List, [], ◌∷◌, ◌++◌, map, is_err, IfOk, Some, None, Ok, Err, Result, sym, refl, ap, ◌∙◌, subst, ap₂, arith}
use Rattle.std.proofs.lemmas.List.{append_assoc, map-append, length-append}
use Rattle.std.proofs.lemmas.Bool.{cond-true, lt-ltb}
use Rattle.framing.specs.declared.slot.Slot.{Slot}
use Rattle.framing.specs.declared.slot.Slot.TheVariants.{Mark}
use Rattle.channel.specs.declared.channel.Full.{Full}
use Rattle.channel.specs.Answers.{PutAnswer}
use Rattle.channel.specs.declared.sending.Outgoing.{Outgoing}
use Rattle.channel.specs.Outgoings.{as_put, AllPut}
use Rattle.channel.specs.Asking.{refusal, room_question}
use Rattle.channel.specs.Sending.{Arrives, Put, a_frame, a_mark, Sent, sent_frame, sent_mark, what, became, AllMade, Went}

-- where there is room the question is answered yes
pub room_open : (room : ℕ) → 0 < room → room_question room ≡ None
room_open room some = cond-true (ltb 0 room) None (Some 9) (lt-ltb 0 room some)

-- what was sent first, and what was sent then
pub all_made_join :
    (made : List ℕ → Slot → Type 0) (a b : List Sent) → AllMade made a → AllMade made b → AllMade made (a ++ b)
all_made_join made [] b m n = n
all_made_join made (sent_frame f s ∷ a) b m n = (m.0, m.1, all_made_join made a b m.2 n)
all_made_join made (sent_mark ∷ a) b m n = all_made_join made a b m n

pub went_join :
    {made : List ℕ → Slot → Type 0} {p q : List Put} {a b c : List Slot} {r s t : ℕ}
    → Went made p a r b s → Went made q b s c t → Went made (p ++ q) a r c t
went_join {made} {p} {q} {a} v w =
    record {
      sent = v.sent ++ w.sent;
      each = map-append what v.sent w.sent ∙ ap₂ (λ (x y : List Put). x ++ y) v.each w.each;
      made_so = all_made_join made v.sent w.sent v.made_so w.made_so;
      grew =
          w.grew
          ∙ ap (λ (x : List Slot). x ++ map became w.sent) v.grew
          ∙ append_assoc a (map became v.sent) (map became w.sent)
          ∙ ap (λ (x : List Slot). a ++ x) (sym (map-append became v.sent w.sent));
      fell = simp length-append (omega (arith, v.fell, w.fell));
    }

-- one frame, and the slot that was made of it
pub went_frame :
    {made : List ℕ → Slot → Type 0} (f : List ℕ) (s : Slot) {old new : List Slot} {room rest : ℕ}
    → made f s → Arrives f s → new ≡ old ++ s ∷ [] → room ≡ rest + 1 → Went made (a_frame f ∷ []) old room new rest
went_frame f s is comes grew fell = record { sent = sent_frame f s ∷ []; each = refl; made_so = (is, comes, tt); grew = grew; fell = fell }

-- one mark
pub went_mark :
    {made : List ℕ → Slot → Type 0} {old new : List Slot} {room rest : ℕ}
    → new ≡ old ++ Mark ∷ [] → room ≡ rest + 1 → Went made (a_mark ∷ []) old room new rest
went_mark grew fell = record { sent = sent_mark ∷ []; each = refl; made_so = tt; grew = grew; fell = fell }

-- a put that finds room goes
pub went_put :
    (r : Result (Unit {0}) Full) (room : ℕ) {P : Type 0}
    → refusal r ≡ room_question room → 0 < room → IfOk r (λ _. P) → P
went_put (Ok _) room asked some went = went
went_put (Err full) room asked some went =
    let yes_room = room_open room some in
    let clash : ◌≡◌ {A = ℕ} 0 1 = cc in
    absurd (omega arith)

-- frames and marks put one after another
pub all_put_more :
    {C : Type 0} {slots : C → List Slot} {space : C → ℕ} {made : List ℕ → Slot → Type 0} {tied : C → Type 0}
    (items : List Outgoing) (item : Outgoing) (r : Result (Unit {0}) Full) {old mid new : C}
    → AllPut slots space made tied items old mid
    → PutAnswer slots space made tied (as_put item) r mid new → false ≡ is_err r
    → AllPut slots space made tied (items ++ item ∷ []) old new
all_put_more {C} {slots} {space} {made} items item (Ok _) {old} {mid} {new} before a ok =
    record {
      counts = simp length-append (omega (arith, before.counts, a.counts));
      joins = λ t.
          subst
          (λ (puts : List Put). Went made puts (slots old) (space old) (slots new) (space new))
          (sym (map-append as_put items (item ∷ [])))
          (went_join (before.joins t) (a.joins (before.keeps t)));
      keeps = λ t. a.keeps (before.keeps t);
    }
all_put_more items item (Err full) before a ok = let clash : ◌≡◌ {A = ℕ} 0 1 = cc in absurd (omega arith)
