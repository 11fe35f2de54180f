use Rattle.std.proofs.Common.{◌∙◌}
use Rattle.fints_rules_permissions.proofs.TanLemmas.{takes_one_any}
use Rattle.fints_rules_permissions.proofs.tans.TanTable.takes_one.Goals as goal

pub returns : goal.returns
returns c rows h = takes_one_any rows c.args.version c.contains.result (c.contains.ensures ∙ h.single c.args.version)
