use Rattle.fints_syntax.proofs.Streams.{begins_later}
use Rattle.fints_syntax.proofs.stream.begin.Goals as goal

pub returns-clause-ready : goal.returns-clause-ready
returns-clause-ready c =
    let e = c.split_at.ensures.back in
    begins_later c.args.bytes.now c.args.from c.breaks_len-breaks.result c.new.result c.requires
    (rw e at c.breaks_len-breaks.ensures.within) (rw e at c.breaks_len-breaks.ensures.breaks)
    c.new.ensures
