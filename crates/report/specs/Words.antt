-- The words of the reports.
use Rattle.std.specs.Prelude.{ℕ, Bool, true, false, cond, List, ◌++◌, ◌==◌, codes, decimal, Option}
use Rattle.service.specs.Words.{word_of_kind}
use Rattle.service.specs.declared.header.SyncHeader.{SyncHeader}
use Rattle.spelling.specs.Optional.{optional_words}
use Rattle.report.specs.declared.entry.Verdict.{Verdict}
use Rattle.report.specs.declared.entry.Verdict.TheVariants.{Sound, Damaged, Foreign}

abbrev pub word_of_verdict : Verdict → List ℕ
word_of_verdict Sound = codes "sound"
word_of_verdict Damaged = codes "damaged"
word_of_verdict (Foreign number) = codes "foreign"

abbrev pub on_or_off : Bool → List ℕ
on_or_off true = codes "on"
on_or_off false = codes "off"

abbrev pub count_words : ℕ → List ℕ → List ℕ
count_words n name = decimal n ++ (codes " " ++ name)

-- so many things, with their name in the singular or the plural
abbrev pub counted : ℕ → List ℕ → List ℕ → List ℕ
counted n one many = count_words n (cond (n == 1) one many)

-- as in: superframe 1, at byte 1: 200 frames, 1 gap
abbrev pub superframe_words : ℕ → ℕ → ℕ → ℕ → List ℕ
superframe_words number at frames gaps =
    codes "superframe "
    ++ (decimal number
    ++ (codes ", at byte "
    ++ (decimal at
    ++ (codes ": "
    ++ (counted frames (codes "frame") (codes "frames") ++ (codes ", " ++ counted gaps (codes "gap") (codes "gaps")))))))

abbrev pub fact_of_frame : Option ℕ → List ℕ
fact_of_frame id = optional_words decimal (codes ", frame ") id (codes "")

abbrev pub fact_of_time : Option ℕ → List ℕ
fact_of_time time = optional_words decimal (codes ", time ") time (codes "")

abbrev pub fact_of_access : Bool → List ℕ
fact_of_access true = codes ", access point"
fact_of_access false = codes ""

abbrev pub fact_of_reference : Bool → List ℕ
fact_of_reference true = codes ", unreferenced"
fact_of_reference false = codes ""

-- as in: video, frame 0, time 90000, access point
abbrev pub fact_words : SyncHeader → List ℕ
fact_words h =
    word_of_kind h.kind
    ++ (fact_of_frame h.frame_id
    ++ (fact_of_time h.timestamp ++ (fact_of_access h.access_point ++ fact_of_reference h.unreferenced)))
