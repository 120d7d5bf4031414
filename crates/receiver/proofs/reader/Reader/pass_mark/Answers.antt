use Rattle.std.proofs.Common.{◌≤◌, length, arith}
use Rattle.receiver.proofs.Steps.{nothing_past}
use Rattle.receiver.proofs.reader.Reader.pass_mark.Goals as goal

pub returns-clause-after : goal.returns-clause-after
returns-clause-after c =
    let short : length c.args.self.now.frame.bytes ≤ 122 = omega arith in
    rw (nothing_past c.args.self.now.frame.bytes 122 short, c.if-fasb.false)
