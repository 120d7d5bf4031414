-- The law of the writing side.
use Rattle.std.proofs.Common.{ℕ, Bool, List, [], ◌∷◌, ◌++◌, map, None, Option, sym, ap, ◌∙◌, subst, arith}
use Rattle.std.proofs.lemmas.List.{append-nil, append_assoc, map-append, length-append}
use Rattle.channel.specs.Sending.{Put, a_frame, a_mark}
use Rattle.runlaw.proofs.Rows.{lawful_when_seeking}
use Rattle.flow.specs.Carrying.{parts_in, begun_after, counted, WellPut, EachLawful}
use Rattle.flow.specs.Cutting.{cut, paddings}
use Rattle.flow.specs.Runs.{Call, opens, offers, closes, step, run, offered, AllAccepted, Superframe, WritingLaw}
use Rattle.flow.specs.Writing.{State, idle}
use Rattle.flow.proofs.Cuts.{cut_count}
use Rattle.flow.specs.Keeping.{Keeps}
use Rattle.flow.proofs.Keeps.{keeps_idle, keeps_opening, keeps_offering, keeps_closing}
use Rattle.flow.proofs.Pads.{paddings_count}

-- 1. Every run keeps what each call keeps.

keeps_run : (fasb : Bool) (width : ℕ) (calls : List Call) {ps : List (List ℕ)} {puts : List Put} {s : State} → Keeps fasb width ps puts s
    → AllAccepted fasb width calls s
    → Keeps fasb width (ps ++ offered calls) (puts ++ (run s calls).puts) (run s calls).state
keeps_run fasb width [] {ps} {puts} {s} keeps accepted =
    subst (λ (x : List (List ℕ)). Keeps fasb width x (puts ++ []) s) (sym (append-nil ps))
    (subst (λ (x : List Put). Keeps fasb width ps x s) (sym (append-nil puts)) keeps)
keeps_run fasb width (opens n ∷ calls) {ps} {puts} {s} keeps accepted =
    subst (λ (x : List Put). Keeps fasb width (ps ++ offered calls) x (run s (opens n ∷ calls)).state)
    (append_assoc puts (step (opens n) s).puts (run (step (opens n) s).state calls).puts)
    (keeps_run fasb width calls (keeps_opening n keeps accepted.0.0 accepted.0.1) accepted.1)
keeps_run fasb width (offers bytes ∷ calls) {ps} {puts} {s} keeps accepted =
    subst (λ (x : List (List ℕ)). Keeps fasb width x (puts ++ (run s (offers bytes ∷ calls)).puts) (run s (offers bytes ∷ calls)).state)
    (append_assoc ps (bytes ∷ []) (offered calls))
    (subst (λ (x : List Put). Keeps fasb width ((ps ++ bytes ∷ []) ++ offered calls) x (run s (offers bytes ∷ calls)).state)
    (append_assoc puts (step (offers bytes) s).puts (run (step (offers bytes) s).state calls).puts)
    (keeps_run fasb width calls (keeps_offering bytes keeps accepted.0.1 accepted.0.2 accepted.0.3) accepted.1))
keeps_run fasb width (closes ∷ calls) {ps} {puts} {s} keeps accepted =
    subst (λ (x : List Put). Keeps fasb width (ps ++ offered calls) x (run s (closes ∷ calls)).state)
    (append_assoc puts (step closes s).puts (run (step closes s).state calls).puts)
    (keeps_run fasb width calls (keeps_closing keeps) accepted.1)

pub each_lawful : (fasb : Bool) (width : ℕ) (at : Option (List ℕ)) (puts : List Put) → WellPut fasb width at puts → EachLawful width puts
each_lawful fasb width at [] well = tt
each_lawful fasb width at (a_frame f ∷ puts) well = (
  lawful_when_seeking width (counted at) f well.1,
  each_lawful fasb width (begun_after at (parts_in f)) puts well.3,
)
each_lawful fasb width at (a_mark ∷ puts) well = each_lawful fasb width at puts well.1

-- 2. A superframe.

offers_close : (s : State) (packets : List (List ℕ)) → Superframe s.left (run s (map offers packets ++ closes ∷ []))
offers_close s [] =
    record { frames = paddings s.left s.begun; count = paddings_count s.left s.begun; puts = append-nil (step closes s).puts }
offers_close s (bytes ∷ packets) =
    let full = (cut s.left s.begun bytes).full in
    let later = offers_close (step (offers bytes) s).state packets in
    record {
      frames = full ++ later.frames;
      count = length-append full later.frames ∙ omega (arith, later.count, cut_count s.left s.begun bytes);
      puts =
          ap (λ (r : List Put). map a_frame full ++ r) later.puts
          ∙ sym (append_assoc (map a_frame full) (map a_frame later.frames) (a_mark ∷ []))
          ∙ ap (λ (r : List Put). r ++ a_mark ∷ []) (sym (map-append a_frame full later.frames));
    }

pub writing_law : WritingLaw
writing_law =
    record {
      carried = λ fasb width calls accepted.
          let keeps = keeps_run fasb width calls (keeps_idle fasb width) accepted in
          record {
            packets = keeps.packets;
            well_put = keeps.well_put;
            lawful = each_lawful fasb width None (run idle calls).puts keeps.well_put;
          };
      superframe = λ s n packets.
          let full = (cut n [] s.over).full in
          let later = offers_close (step (opens n) s).state packets in
          record {
            frames = full ++ later.frames;
            count = length-append full later.frames ∙ omega (arith, later.count, cut_count n [] s.over);
            puts =
                ap (λ (r : List Put). map a_frame full ++ r) later.puts
                ∙ sym (append_assoc (map a_frame full) (map a_frame later.frames) (a_mark ∷ []))
                ∙ ap (λ (r : List Put). r ++ a_mark ∷ []) (sym (map-append a_frame full later.frames));
          };
    }
