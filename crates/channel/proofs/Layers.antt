-- A fade over a channel meets the interface.
use Rattle.std.proofs.Common.{◌≡◌, ℕ, ◌+◌, ◌*◌, ◌%◌, ◌≤◌, Bool, true, false, cond, List, [], ◌∷◌, ◌++◌, map, length, Some, Ok, Err, Result, sym, refl, ap, ◌∙◌, subst, ap₂, inl, inr}
use native.Mathlib.Nat.{mod-add-mod}
use Rattle.framing.specs.declared.slot.Slot.{Slot}
use Rattle.framing.specs.declared.slot.Slot.TheVariants.{Frame, Gap, Mark}
use Rattle.channel.specs.declared.channel.Full.{Full}
use Rattle.channel.specs.declared.pattern.FadePattern.{FadePattern}
use Rattle.channel.specs.declared.fade.Fade.{Fade}
use Rattle.channel.specs.Answers.{PutAnswer, TakeAnswer}
use Rattle.channel.specs.Sending.{Arrives, Put, Sent, sent_frame, sent_mark, what, became, AllMade, Went}
use Rattle.channel.specs.Patterns.{shown, passes, through, number_after, faded}
use Rattle.channel.specs.Fading.{fade_slots, fade_space, Fades, FadeTied, SameBit}
use Rattle.channel.proofs.Fades.{passes_round}

-- numbers with one bit are as good as each other
through_same :
    (pattern : List ℕ) (k j : ℕ) (s : Slot) → k % (8 * length pattern) ≡ j % (8 * length pattern)
    → through pattern k s ≡ through pattern j s
through_same pattern k j (Frame f) same =
    ap (λ (b : Bool). cond b (Frame f) Gap)
    (sym (passes_round pattern k) ∙ ap (passes pattern) same ∙ passes_round pattern j)
through_same pattern k j Gap same = refl
through_same pattern k j Mark same = refl

step_same : (n k j : ℕ) (s : Slot) → k % n ≡ j % n → number_after k s % n ≡ number_after j s % n
step_same n k j (Frame f) same = sym (mod-add-mod k n 1) ∙ ap (λ (m : ℕ). (m + 1) % n) same ∙ mod-add-mod j n 1
step_same n k j Gap same = sym (mod-add-mod k n 1) ∙ ap (λ (m : ℕ). (m + 1) % n) same ∙ mod-add-mod j n 1
step_same n k j Mark same = same

pub faded_same :
    (pattern : List ℕ) (k j : ℕ) (slots : List Slot) → k % (8 * length pattern) ≡ j % (8 * length pattern)
    → faded pattern k slots ≡ faded pattern j slots
faded_same pattern k j [] same = refl
faded_same pattern k j (s ∷ rest) same =
    ap₂ (λ (x : Slot) (l : List Slot). x ∷ l)
    (through_same pattern k j s same)
    (faded_same pattern (number_after k s) (number_after j s) rest (step_same (8 * length pattern) k j s same))

-- the number after all of these
past : ℕ → List Slot → ℕ
past k [] = k
past k (s ∷ rest) = past (number_after k s) rest

faded_join :
    (pattern : List ℕ) (k : ℕ) (a b : List Slot)
    → faded pattern k (a ++ b) ≡ faded pattern k a ++ faded pattern (past k a) b
unfolding past
faded_join pattern k [] b = refl
faded_join pattern k (s ∷ a) b = ap (λ (l : List Slot). through pattern k s ∷ l) (faded_join pattern (number_after k s) a b)

-- what was sent, as it comes through
abbrev dimmed : List ℕ → ℕ → List Sent → List Sent
dimmed pattern k [] = []
dimmed pattern k (sent_frame f s ∷ more) = sent_frame f (through pattern k s) ∷ dimmed pattern (number_after k s) more
dimmed pattern k (sent_mark ∷ more) = sent_mark ∷ dimmed pattern k more

dimmed_what : (pattern : List ℕ) (k : ℕ) (sent : List Sent) → map what (dimmed pattern k sent) ≡ map what sent
dimmed_what pattern k [] = refl
dimmed_what pattern k (sent_frame f s ∷ more) = ap (λ (l : List Put). what (sent_frame f s) ∷ l) (dimmed_what pattern (number_after k s) more)
dimmed_what pattern k (sent_mark ∷ more) = ap (λ (l : List Put). what sent_mark ∷ l) (dimmed_what pattern k more)

dimmed_became :
    (pattern : List ℕ) (k : ℕ) (sent : List Sent) → map became (dimmed pattern k sent) ≡ faded pattern k (map became sent)
dimmed_became pattern k [] = refl
dimmed_became pattern k (sent_frame f s ∷ more) = ap (λ (l : List Slot). through pattern k s ∷ l) (dimmed_became pattern (number_after k s) more)
dimmed_became pattern k (sent_mark ∷ more) = ap (λ (l : List Slot). Mark ∷ l) (dimmed_became pattern k more)

-- what comes through of a frame is a gap or what was made of it
through_made :
    (made : List ℕ → Slot → Type 0) (pattern : List ℕ) (k : ℕ) (f : List ℕ) (s : Slot) → made f s → Arrives f s
    → Fades made f (through pattern k s) × Arrives f (through pattern k s)
through_made made pattern k f (Frame h) is comes =
    elim (passes pattern k) as (λ b. Fades made f (cond b (Frame h) Gap) × Arrives f (cond b (Frame h) Gap))
    [ true ↦ (inr is, comes) | false ↦ (inl refl, tt) ]
through_made made pattern k f Gap is comes = (inl refl, tt)
through_made made pattern k f Mark is comes = absurd comes

dimmed_made :
    (made : List ℕ → Slot → Type 0) (pattern : List ℕ) (k : ℕ) (sent : List Sent)
    → AllMade made sent → AllMade (Fades made) (dimmed pattern k sent)
dimmed_made made pattern k [] is = tt
dimmed_made made pattern k (sent_frame f s ∷ more) is =
    let here = through_made made pattern k f s is.0 is.1 in
    (here.0, here.1, dimmed_made made pattern (number_after k s) more is.2)
dimmed_made made pattern k (sent_mark ∷ more) is = dimmed_made made pattern k more is

-- what went onto the channel below went onto the fade
pub went_faded :
    {made : List ℕ → Slot → Type 0} {puts : List Put} {old new : List Slot} {room rest : ℕ} (pattern : List ℕ) (k : ℕ)
    → Went made puts old room new rest
    → Went (Fades made) puts (faded pattern k old) room (faded pattern k new) rest
went_faded {made} {puts} {old} pattern k w =
    let from = past k old in
    record {
      sent = dimmed pattern from w.sent;
      each = dimmed_what pattern from w.sent ∙ w.each;
      made_so = dimmed_made made pattern from w.sent w.made_so;
      grew =
          ap (faded pattern k) w.grew
          ∙ faded_join pattern k old (map became w.sent)
          ∙ ap (λ (l : List Slot). faded pattern k old ++ l) (sym (dimmed_became pattern from w.sent));
      fell = w.fell;
    }

-- a put on the channel below is a put on the fade
pub fade_put :
    {C : Type 0} {slots : C → List Slot} {space : C → ℕ} {made : List ℕ → Slot → Type 0} {tied : C → Type 0} {put : Put}
    (r : Result (Unit {0}) Full) (old : Fade C) {below : C}
    → PutAnswer slots space made tied put r old.channel below
    → PutAnswer (fade_slots slots) (fade_space space) (Fades made) (FadeTied tied) put r old
    (record { channel = below; pattern = old.pattern; number = old.number })
fade_put (Ok _) old a =
    record {
      asked = a.asked;
      same = tt;
      counts = a.counts;
      joins = λ t. went_faded (shown old.pattern) old.number (a.joins t);
      keeps = a.keeps;
    }
fade_put {C} (Err full) old a =
    record {
      asked = a.asked;
      same = ap (λ (c : C). record { channel = c; pattern = old.pattern; number = old.number }) a.same;
      counts = tt;
      joins = λ _. tt;
      keeps = a.keeps;
    }

-- what comes through of the slot taken below is taken from the fade
pub fade_take :
    {C : Type 0} {slots : C → List Slot} {space : C → ℕ} {tied : C → Type 0} (s : Slot) (old new : Fade C) (given : Slot) {below : C}
    → TakeAnswer slots space tied (Some s) old.channel below
    → given ≡ through (shown old.pattern) old.number s
    → SameBit old.pattern new.number (number_after old.number s)
    → new.channel ≡ below → new.pattern ≡ old.pattern
    → TakeAnswer (fade_slots slots) (fade_space space) (FadeTied tied) (Some given) old new
fade_take {C} {slots} {space} {tied} s old new given {below} a gives counts channel pattern =
    let seen = shown old.pattern in
    let after = number_after old.number s in
    let rest : fade_slots slots new ≡ faded seen after (slots below) =
    ap₂ (λ (p : FadePattern) (c : C). faded (shown p) new.number (slots c)) pattern channel
    ∙ faded_same seen new.number after (slots below) counts in
    record {
      first =
          ap (faded seen old.number) a.first
          ∙ ap₂ (λ (x : Slot) (l : List Slot). x ∷ l) (sym gives) (sym rest);
      frees = subst (λ (c : C). space old.channel ≤ space c) (sym channel) a.frees;
      keeps = λ t. subst tied (sym channel) (a.keeps t);
    }
