use denote.Text.{Utf8}
use denote.Shadow.{shadow}
use Rattle.console.proofs.frames.FrameReportDisplay.fmt.Given as goal

-- the margin is text
abbrev pub invariant-loop-fragment : goal.invariant-loop-fragment
invariant-loop-fragment g l =
    (goal.iterator-loop-fragment g).can_next l.fragment-iterator ×
    (goal.iterator-loop-fragment g).is_finite l.fragment-iterator ×
    shadow (Utf8 l.margin)
