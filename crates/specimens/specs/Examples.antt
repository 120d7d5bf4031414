-- The worked examples, all of them.
use Rattle.reel.specs.Laws.{Examples}
use Rattle.specimens.specs.Frames.{PacketsAsFrames, WhatFits}
use Rattle.specimens.specs.Headers.{SyncHeaders}
use Rattle.specimens.specs.Losses.{LostFrames}

pub record WorkedExamples : Type 0 where
  pub frames : PacketsAsFrames
  pub fits : WhatFits
  pub losses : LostFrames
  pub headers : SyncHeaders
  pub reels : Examples
