-- Runs of accepted calls on a writing side, and the law of what they put.
use Rattle.std.specs.Prelude.{◌≡◌, ℕ, ◌+◌, ◌<◌, ◌≤◌, Bool, true, false, cond, List, [], ◌∷◌, ◌++◌, map, length, None}
use Rattle.channel.specs.Sending.{a_frame, a_mark}
use Rattle.flow.specs.Asking.{free}
use Rattle.flow.specs.Carrying.{parts_in, parts_put, packets_of, WellPut, EachLawful}
use Rattle.flow.specs.Writing.{State, Step, idle, opening, offering, closing}

-- A call that was accepted. The bytes of an offer are a packet and then its checksum.
pub data Call : Type 0 where
  opens : (frames : ℕ) → Call
  offers : (bytes : List ℕ) → Call
  closes : Call

abbrev pub step : Call → State → Step
step (opens n) s = opening n s
step (offers bytes) s = offering bytes s
step closes s = closing s

-- calls one after another
abbrev pub run : State → List Call → Step
run s [] = record { state = s; puts = [] }
run s (c ∷ calls) =
    record {
      state = (run (step c s).state calls).state;
      puts = (step c s).puts ++ (run (step c s).state calls).puts;
    }

-- the packets offered, each with its checksum
abbrev pub offered : List Call → List (List ℕ)
offered [] = []
offered (opens n ∷ calls) = offered calls
offered (offers bytes ∷ calls) = bytes ∷ offered calls
offered (closes ∷ calls) = offered calls

-- What the questions ask of an accepted call, as far as the writing side goes.
abbrev pub Accepted : (fasb : Bool) (width : ℕ) → Call → State → Type 0
Accepted fasb width (opens n) s = (s.opened ≡ false) × (0 < n)
Accepted fasb width (offers bytes) s =
    (s.opened ≡ true)
    × (1 ≤ length bytes)
    × (length bytes ≤ 2044 + width)
    × (cond fasb 1 (length bytes) ≤ free s.left s.begun)
Accepted fasb width closes s = s.opened ≡ true

abbrev pub AllAccepted : (fasb : Bool) (width : ℕ) → List Call → State → Type 0
AllAccepted fasb width [] s = Unit {0}
AllAccepted fasb width (c ∷ calls) s = Accepted fasb width c s × AllAccepted fasb width calls (step c s).state

-- What a run from set-up put. The parts in the frames put, in order, with those in the unfinished frame and the bytes
-- carried over, are the packets that were offered, each followed by its checksum, in the order offered.
pub record Carried (fasb : Bool) (width : ℕ) (calls : List Call) (after : Step) : Type 0 where
  pub packets : packets_of None (parts_put after.puts ++ parts_in after.state.begun) after.state.over ≡ offered calls
  pub well_put : WellPut fasb width None after.puts
  pub lawful : EachLawful width after.puts

-- A superframe has exactly n frames and one mark.
pub record Superframe (n : ℕ) (s : Step) : Type 0 where
  pub frames : List (List ℕ)
  pub count : length frames ≡ n
  pub puts : s.puts ≡ map a_frame frames ++ a_mark ∷ []

-- The law of the writing side, over every run of accepted calls.
pub record WritingLaw : Type 0 where
  pub carried : (fasb : Bool) (width : ℕ) (calls : List Call) → AllAccepted fasb width calls idle → Carried fasb width calls (run idle calls)
  pub superframe : (s : State) (n : ℕ) (packets : List (List ℕ)) → Superframe n (run s (opens n ∷ (map offers packets ++ closes ∷ [])))
