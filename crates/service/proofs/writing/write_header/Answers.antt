use Rattle.service.proofs.Rewritten.{reads_back, rewrites}
use Rattle.service.proofs.writing.write_header.Goals as goal

pub returns-clause-reads_back : goal.returns-clause-reads_back
returns-clause-reads_back c =
    let put = c.put_packet.ensures in
    reads_back c.put_packet.result c.args.header.now c.args.payload.now c.args.out.now c.put_packet.new.out put.answer put.buffer put.fits

pub returns-clause-rewrites : goal.returns-clause-rewrites
returns-clause-rewrites c =
    let put = c.put_packet.ensures in
    rewrites c.put_packet.result c.args.header.now c.args.payload.now c.args.out.now c.put_packet.new.out put.answer put.buffer
