use Rattle.std.proofs.Common.{rules}
use Rattle.fints_syntax.proofs.text.RawText.bytes.Goals as goal

pub returns : goal.returns
returns c = search rules
