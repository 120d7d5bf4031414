use Rattle.framing.proofs.fault.FrameFault.words.Goals as goal

pub returns-in-CountOutOfRange : goal.returns-in-CountOutOfRange
returns-in-CountOutOfRange c = rw c.in-CountOutOfRange.is

pub returns-in-PaddingInLastByte : goal.returns-in-PaddingInLastByte
returns-in-PaddingInLastByte c = rw c.in-PaddingInLastByte.is

pub returns-in-PaddingNotZero : goal.returns-in-PaddingNotZero
returns-in-PaddingNotZero c = rw c.in-PaddingNotZero.is
