-- What all answers of a reel come to.
use Rattle.std.specs.Prelude.{◌≡◌, ℕ, ◌<◌, Bool, true, false, cond, List, [], ◌∷◌, length, ◌≢◌, nat_lt}
use Rattle.checksum.specs.Choosing.{width_by, value_by}
use Rattle.framing.specs.declared.slot.Slot.{Slot}
use Rattle.receiver.specs.Answering.{Answer, Quality, sound, damaged, foreign, handed_out, short, lost, torn, mark, nothing}
use Rattle.receiver.specs.Folding.{answers_owed}
use Rattle.receiver.specs.Reading.{Reader}
use Rattle.receiver.specs.Views.{view}
use Rattle.receiver.specs.declared.answer.Reading.{Reading}
use Rattle.receiver.specs.declared.answer.Reading.TheVariants as readings
use Rattle.reel.specs.Playing.{waiting_slots}
use Rattle.service.specs.Choosing.{refuses_by}
use Rattle.service.specs.declared.choice.ServiceChoice.{ServiceChoice}
use Rattle.report.specs.declared.entry.Entry.TheVariants.{Short, Lost, Unfinished}
use Rattle.report.specs.declared.entry.Verdict.{Verdict}
use Rattle.report.specs.declared.entry.Verdict.TheVariants.{Sound, Damaged, Foreign}
use Rattle.report.specs.declared.settings.Settings.{Settings}
use Rattle.report.specs.declared.totals.Totals.{Totals}
use Rattle.report.specs.declared.walk.ReelWalk.{ReelWalk}
use Rattle.report.specs.declared.walk.Until.{Until}
use Rattle.report.specs.declared.walk.Until.TheVariants as to
use Rattle.report.specs.Entries.{header_in}
use Rattle.report.specs.Tallies.{counting_packet, with_torn, tallied}

abbrev pub verdict_of : Quality → Verdict
verdict_of sound = Sound
verdict_of damaged = Damaged
verdict_of (foreign number) = Foreign number

-- with the unfinished packet of which so many bytes were there, if there were any
abbrev pub counting_open : Totals → ℕ → Totals
counting_open t dropped = cond (nat_lt 0 dropped) (tallied t (Unfinished dropped)) t

-- One answer more: a packet counts by what it is and by the kind that its header names, a lost and a torn frame with the
-- bytes that were dropped, and a mark where it drops any.
abbrev pub tallied_answer : ServiceChoice → Totals → Answer → Totals
tallied_answer service t (handed_out quality packet) = counting_packet t (verdict_of quality) (header_in service packet)
tallied_answer service t short = tallied t Short
tallied_answer service t (lost number dropped) = tallied t (Lost number dropped)
tallied_answer service t (torn number dropped question place) = with_torn t dropped
tallied_answer service t (mark dropped) = counting_open t dropped
tallied_answer service t nothing = t

-- all these answers more
abbrev pub tallied_all : ServiceChoice → Totals → List Answer → Totals
tallied_all service t [] = t
tallied_all service t (answer ∷ rest) = tallied_all service (tallied_answer service t answer) rest

-- the answers that the rules still owe to a reader under these settings, where these slots wait
abbrev pub owed_by : Settings → Reader → List Slot → List Answer
owed_by s reader slots = answers_owed s.fasb (width_by s.checksum) (value_by s.checksum) (refuses_by s.service) reader slots

-- the answers that are still owed to a walk
abbrev pub owed_to : ReelWalk → List Answer
owed_to w = owed_by w.settings (view w.reader) (waiting_slots w.channel)

-- the totals of a walk, with all answers that are still owed
abbrev pub in_all : ReelWalk → Totals
in_all w = tallied_all w.settings.service w.totals (owed_to w)

-- a walk whose totals have one answer more
abbrev pub with_answer : ReelWalk → Answer → ReelWalk
with_answer w answer = record w { totals = tallied_answer w.settings.service w.totals answer }

-- One reading: with what is still owed, the totals come to the same as before; less is owed, or it answered nothing, and then nothing is owed.
pub record Passed (reading : Reading) (before after : ReelWalk) : Type 0 where
  pub counted : in_all after ≡ in_all before
  pub falls : (reading ≢ readings.Nothing) → length (owed_to after) < length (owed_to before)
  pub out : reading ≡ readings.Nothing → owed_to after ≡ []

-- whether a reading is the last of a walk to the next mark, or to the end
abbrev pub is_the_last : Until → Reading → Bool
is_the_last until readings.Nothing = true
is_the_last to.Mark (readings.Mark dropped) = true
is_the_last _ _ = false
