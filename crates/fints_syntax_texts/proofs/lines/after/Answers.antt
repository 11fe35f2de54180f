use Rattle.fints_syntax_texts.proofs.Prefixes.{strip_some, strip_none}
use Rattle.fints_syntax_texts.proofs.lines.after.Goals as goal

pub returns-clause-rest : goal.returns-clause-rest
returns-clause-rest c = strip_some c.args.text.now c.args.front.now c.strip_prefix.result c.strip_prefix.ensures.cases

pub returns-clause-none : goal.returns-clause-none
returns-clause-none c = strip_none c.args.text.now c.args.front.now c.strip_prefix.result c.strip_prefix.ensures.cases
