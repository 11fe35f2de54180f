use Rattle.std.proofs.Common.{◌≡◌, ◌∙◌, subst, rules, arith}
use Rattle.fints_syntax_segments.specs.Spelling.{text_bytes, text_value}
use Rattle.fints_syntax.specs.Items.{HasNoEscape}
use Rattle.fints_syntax.proofs.Values.{no_escape_value}
use Rattle.fints_syntax.proofs.owning.append_raw.Goals as goal

pub returns-then-not-has_escape-clause-added : goal.returns-then-not-has_escape-clause-added
returns-then-not-has_escape-clause-added c =
    let none : HasNoEscape c.as_bytes.result.now = grind arith in
    let same : text_bytes c.args.raw.now ≡ text_value c.args.raw.now = no_escape_value c.args.raw.now (subst HasNoEscape c.as_bytes.ensures none) in
    let bytes : c.as_bytes-then-not-has_escape.result.now ≡ text_value c.args.raw.now = c.as_bytes-then-not-has_escape.ensures ∙ same in
    search rules
