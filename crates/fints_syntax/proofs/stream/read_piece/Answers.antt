use Rattle.std.proofs.Common.{arith}
use Rattle.fints_syntax.proofs.Cuts.{stop_of, long_stop}
use Rattle.fints_syntax.proofs.stream.read_piece.Goals as goal

pub returns-then-bytes-limit-clause-fault : goal.returns-then-bytes-limit-clause-fault
returns-then-bytes-limit-clause-fault g c = stop_of c.args.at c.args.bytes.now c.read_on.result (omega arith) c.read_on.ensures.stopped

pub returns-in-Err-clause-fault : goal.returns-in-Err-clause-fault
returns-in-Err-clause-fault g c = long_stop c.args.at c.args.bytes.now c.split_at.result.0.now c.in-Err.fault c.split_at.ensures.front c.in-Err.ensures.stopped
