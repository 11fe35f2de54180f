use Rattle.std.proofs.Common.{rules}
use Rattle.fints_syntax_segments.proofs.writing.decimal_len.Goals as goal

pub returns : goal.returns
returns c = search rules
