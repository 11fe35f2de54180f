use Rattle.std.proofs.Common.{not, ap, ◌∙◌}
use Rattle.fints_check.proofs.verifying.verify.Goals as goal

pub returns-clause-promise : goal.returns-clause-promise
returns-clause-promise c t = c.first_open.ensures.promise (c.is_none.ensures ∙ ap not t)

pub returns-clause-permitted : goal.returns-clause-permitted
returns-clause-permitted c t = c.first_open.ensures.permitted (c.is_none.ensures ∙ ap not t)
