use Rattle.std.proofs.Common.{◌∙◌, subst, arith}
use Rattle.fints_syntax.specs.Items.{HasNoEscape}
use Rattle.fints_syntax.proofs.Values.{no_escape_value}
use Rattle.fints_syntax.proofs.text.Item.plain_value.Goals as goal

pub returns-else-has_escape-clause-value : goal.returns-else-has_escape-clause-value
returns-else-has_escape-clause-value c =
    let none : HasNoEscape c.as_bytes-text.result.now = grind arith in
    let same = no_escape_value _ (subst HasNoEscape c.as_bytes-text.ensures none) in
    let bytes = c.as_bytes-text.ensures ∙ same in
    rw c.in-Text.is bytes
