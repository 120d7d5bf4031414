-- What a writer owes a reader that follows it: a condition on what was sent, kept from one call to the next.
use Rattle.std.specs.Prelude.{◌≡◌, ℕ, ◌+◌, Bool, true, false, List, [], ◌∷◌, length, Some, None, Option}
use Rattle.framing.specs.Fragments.{Fragment, body, notional, padding, fragments}
use Rattle.framing.specs.Judging.{judgment, lawful}
use Rattle.channel.specs.Sending.{Sent, sent_frame, sent_mark}

-- Where a writer stands is how many bytes it has put of a packet whose end it has not put, or that there is none.

abbrev pub begun_with : Option ℕ → ℕ → ℕ
begun_with None n = n
begun_with (Some m) n = m + n

abbrev pub stands_after_one : Option ℕ → Fragment → Option ℕ
stands_after_one at (body place bytes true) = None
stands_after_one at (body place bytes false) = Some (begun_with at (length bytes))
stands_after_one at (notional place) = at
stands_after_one at (padding place) = at

abbrev pub stands_after_all : Option ℕ → List Fragment → Option ℕ
stands_after_all at [] = at
stands_after_all at (f ∷ fs) = stands_after_all (stands_after_one at f) fs

abbrev pub stands_after : Option ℕ → List Sent → Option ℕ
stands_after at [] = at
stands_after at (sent_frame f x ∷ s) = stands_after (stands_after_all at (fragments f)) s
stands_after at (sent_mark ∷ s) = stands_after at s

-- with packets that do not cross superframes a mark is put between packets only
abbrev pub MarkAllowed : (fasb : Bool) → Option ℕ → Type 0
MarkAllowed true at = Unit {0}
MarkAllowed false at = at ≡ None

-- Each frame has 122 bytes, and is lawful when judged for a reader that has followed the writer: so no packet is cut longer
-- than 2,044 bytes and the checksum's width, and padding stands only where no packet is begun.
abbrev pub Written : (fasb : Bool) (width : ℕ) → Option ℕ → List Sent → Type 0
Written fasb width at [] = Unit {0}
Written fasb width at (sent_frame f x ∷ s) =
    (length f ≡ 122) × ((judgment width at f).verdict ≡ lawful) × Written fasb width (stands_after_all at (fragments f)) s
Written fasb width at (sent_mark ∷ s) = MarkAllowed fasb at × Written fasb width at s
