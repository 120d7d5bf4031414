-- The writing side of a flow: what it holds, and what each call does to it.
use Rattle.std.specs.Prelude.{◌≡◌, ℕ, Bool, true, false, List, [], ◌∷◌, ◌++◌, map, is_some, Some, None, Option}
use Rattle.std.specs.Option.{unwrap_or}
use Rattle.framing.specs.declared.frame.Frame.{Frame}
use Rattle.channel.specs.Sending.{Put, a_frame, a_mark}
use Rattle.flow.specs.declared.writer.Writer.{Writer}
use Rattle.flow.specs.Cutting.{Cut, cut, paddings}

-- Whether a superframe is open; how many of its frames are not yet put; the bytes of the unfinished frame; the bytes
-- carried over to the next superframe.
pub record State : Type 0 where
  pub opened : Bool
  pub left : ℕ
  pub begun : List ℕ
  pub over : List ℕ

abbrev pub state_of : Writer → State
state_of w =
    record {
      opened = is_some w.left;
      left = unwrap_or w.left 0;
      begun = w.unfinished.bytes.items;
      over = w.carried.items;
    }

-- What a call comes to: what it leaves, and what it puts.
pub record Step : Type 0 where
  pub state : State
  pub puts : List Put

-- In an open superframe a cutting leaves its unfinished frame, and carries over what did not fit; the full frames are put.
abbrev pub cutting : Cut → Step
cutting c =
    record {
      state = record { opened = true; left = c.left; begun = c.unfinished; over = c.over };
      puts = map a_frame c.full;
    }

-- A new flow: no superframe is open, and nothing is carried over.
abbrev pub idle : State
idle = record { opened = false; left = 0; begun = []; over = [] }

-- An opening for n frames cuts what was carried over into them.
abbrev pub opening : ℕ → State → Step
opening n s = cutting (cut n [] s.over)

-- An offer cuts its bytes, a packet and then its checksum, into what is left of the superframe.
abbrev pub offering : List ℕ → State → Step
offering bytes s = cutting (cut s.left s.begun bytes)

-- A closing fills what is left with padding, and puts it and the mark.
abbrev pub closing : State → Step
closing s =
    record {
      state = record { opened = false; left = 0; begun = []; over = s.over };
      puts = map a_frame (paddings s.left s.begun) ++ a_mark ∷ [];
    }

-- The writer on its way through a cutting c: `rest` is still to be cut.
pub record Cutted (c : Cut) (old new : State) (rest : List ℕ) : Type 0 where
  pub unfinished : new.begun ≡ c.unfinished
  pub left : new.left ≡ c.left
  pub rest_is : rest ≡ c.over
  pub opened : new.opened ≡ old.opened

-- the bytes of a frame, where there is one
abbrev pub frames : Option Frame → List (List ℕ)
frames None = []
frames (Some f) = f.bytes ∷ []
