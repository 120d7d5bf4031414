-- What each step does to a session, and what it answers. `slots` is the list of slots that wait on the flow's channel, `space`
-- the channel's room, `made` what it may make of a frame, and `tied` what ties it to what lies below it; the checksum has this
-- width and this value of each packet, and the service this verdict on each.
use Rattle.std.specs.Prelude.{◌≡◌, ℕ, List, [], ◌∷◌, take, replicate, Some, None, Ok, Err, vec_items, Option, Result, Vec}
use Rattle.std.specs.declared.alloc.Global.{Global}
use Rattle.std.specs.List.{AllByRecursion}
use Rattle.framing.specs.declared.slot.Slot.{Slot}
use Rattle.channel.specs.Asking.{waiting}
use Rattle.flow.specs.declared.faults.OpenFault.{OpenFault}
use Rattle.flow.specs.declared.faults.OfferFault.{OfferFault}
use Rattle.flow.specs.declared.flow.Flow.{Flow}
use Rattle.flow.specs.declared.token.SuperframeToken.{SuperframeToken}
use Rattle.flow.specs.Calls.{OpeningAnswer, OfferAnswer, ClosingAnswer, ReadingAnswer}
use Rattle.script.specs.declared.reply.Answered.{Answered}
use Rattle.script.specs.declared.reply.Reply.{Reply}
use Rattle.script.specs.declared.reply.Reply.TheVariants.{Closed, NoToken, Drained}
use Rattle.script.specs.declared.session.Session.{Session}
use Rattle.script.specs.declared.step.Step.{Step}
use Rattle.script.specs.declared.step.Step.TheVariants.{Open, Offer, Close, Drain}
use Rattle.script.specs.declared.stopped.Stopped.{Stopped}
use Rattle.script.specs.declared.stopped.Stopped.TheVariants.{BeforeIt, InDrain}
use Rattle.script.specs.Answers.{opening_answer, hand_after, handed_out, NotNothing, Whole}

-- Neither the flow nor the hand changed.
abbrev pub Same : {C K S : Type 0} → (old new : Session C K S) → Type 0
Same old new = (new.flow ≡ old.flow) × (new.hand ≡ old.hand)

module _
    {C K S : Type 0} (slots : C → List Slot) (space : C → ℕ) (made : List ℕ → Slot → Type 0) (tied : C → Type 0)
    (width : ℕ) (value : List ℕ → List ℕ) (verdict : S → List ℕ → Option ℕ)
  where
    -- An opening. An accepted one puts the token into the hand.
    pub record Opens (n : ℕ) (reply : Reply) (old new : Session C K S) : Type 0 where
      pub answer : Result SuperframeToken OpenFault
      pub reply_is : reply ≡ opening_answer answer
      pub exact : OpeningAnswer slots space made tied n answer old.flow new.flow
      pub hand_is : new.hand ≡ hand_after answer old.hand

    -- An offer with this token, which comes back into the hand.
    pub record Offers (token : SuperframeToken) (packet : List ℕ) (reply : Reply) (old new : Session C K S) : Type 0 where
      pub answer : Result (Unit {0}) OfferFault
      pub reply_is : reply ≡ Reply.Offer answer
      pub exact : OfferAnswer slots space made tied width value verdict token packet answer old.flow new.flow
      pub hand_is : new.hand ≡ Some token

    -- A closing with this token. It is never refused.
    pub record Closes (token : SuperframeToken) (reply : Reply) (old new : Session C K S) : Type 0 where
      pub reply_is : reply ≡ Closed
      pub exact : ClosingAnswer slots space made tied token (Ok tt) old.flow new.flow
      pub hand_is : new.hand ≡ None

    -- With no token in hand, nothing is done.
    pub record HasNoToken (reply : Reply) (old new : Session C K S) : Type 0 where
      pub reply_is : reply ≡ NoToken
      pub same : Same old new

    abbrev pub OffersFrom : Option SuperframeToken → (packet : List ℕ) → Reply → (old new : Session C K S) → Type 0
    OffersFrom None packet = HasNoToken
    OffersFrom (Some token) packet = Offers token packet

    abbrev pub ClosesFrom : Option SuperframeToken → Reply → (old new : Session C K S) → Type 0
    ClosesFrom None = HasNoToken
    ClosesFrom (Some token) = Closes token

    -- One reading into a buffer that was so. Only a packet that was handed out is kept of the buffer.
    pub record ReadInto (before : List ℕ) (a : Answered) (old new : Session C K S) : Type 0 where
      pub after : List ℕ
      pub exact : ReadingAnswer slots space tied width value verdict before after a.answer old.flow new.flow
      pub packet_is : vec_items a.packet ≡ take (handed_out a.answer) after
      pub hand_stays : new.hand ≡ old.hand

    pub record Reads (size : ℕ) (reply : Reply) (old new : Session C K S) : Type 0 where
      pub answered : Answered
      pub reply_is : reply ≡ Reply.Read answered
      pub read : ReadInto (replicate size 0) answered old new

    -- Readings one after another, each into a buffer of 2,044 zeros.
    abbrev pub ReadsOn : List Answered → (old new : Session C K S) → Type 0
    ReadsOn [] old new = new ≡ old
    ReadsOn (a ∷ more) old new = (mid : Session C K S) × ReadInto (replicate 2044 0) a old mid × ReadsOn more mid new

    pub record Drains (reply : Reply) (old new : Session C K S) : Type 0 where
      pub answers : Vec Answered Global
      pub reply_is : reply ≡ Drained answers
      pub reads : ReadsOn (vec_items answers) old new

    -- A question, which changes nothing.
    pub record Question (answer : Reply) (reply : Reply) (old new : Session C K S) : Type 0 where
      pub reply_is : reply ≡ answer
      pub same : Same old new

    -- What a step does and answers.
    abbrev pub Does : Step → Reply → (old new : Session C K S) → Type 0
    Does (Open n) reply old new = Opens n reply old new
    Does (Offer packet) reply old new = OffersFrom old.hand (vec_items packet) reply old new
    Does Close reply old new = ClosesFrom old.hand reply old new
    Does (Step.Read size) reply old new = Reads size reply old new
    Does Drain reply old new = Drains reply old new
    Does Step.Room reply old new = Question (Reply.Room (space old.flow.channel)) reply old new
    Does Step.Waits reply old new = Question (Reply.Waits (waiting (slots old.flow.channel))) reply old new

    -- How far a step came: it is done; or a drain was stopped midway; or nothing was done.
    abbrev pub Took : Step → Result Reply Stopped → (old new : Session C K S) → Type 0
    Took step (Ok reply) old new = Does step reply old new × Whole reply
    Took step (Err (InDrain answers e)) old new = Does step (Drained answers) old new × AllByRecursion NotNothing (vec_items answers)
    Took step (Err (BeforeIt e)) old new = new ≡ old

    -- Ending a session closes the superframe that is open, if any.
    abbrev pub Ended : Option SuperframeToken → (old new : Flow C K S) → Type 0
    Ended None old new = new ≡ old
    Ended (Some token) old new = ClosingAnswer slots space made tied token (Ok tt) old new
