use Rattle.std.proofs.Common.{arith}
use Rattle.fints_syntax.specs.Faults.{window_of}
use Rattle.fints_syntax.proofs.stream.Begun.new.Goals as goal

pub returns : goal.returns
returns c = λ rest. record { within = omega arith; breaks = tt; searched = c.new.ensures (window_of rest) }
