use Rattle.std.proofs.Common.{rules}
use Rattle.fints_syntax_segments.proofs.writing.write_segment.Goals as goal

pub returns-in-Err-clause-unchanged : goal.returns-in-Err-clause-unchanged
returns-in-Err-clause-unchanged c = search rules
