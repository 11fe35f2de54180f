use Rattle.std.proofs.Common.{rules}
use Rattle.fints_syntax_segments.proofs.writing.is_syntax.Goals as goal

pub returns-in_default : goal.returns-in_default
returns-in_default c = search rules
