use Rattle.std.proofs.Common.{refl}
use Rattle.fints_rules.specs.declared.rule.Rule.TheVariants as rule
use Rattle.fints_cli_json.specs.Laws.{NamesAsPrinted}
use Rattle.fints_cli_json.proofs.laws.names_as_printed.Goals as goal

as_printed : NamesAsPrinted
as_printed rule.Protocol = refl
as_printed rule.Number = refl
as_printed rule.Size = refl
as_printed rule.Kinds = refl
as_printed rule.Version = refl
as_printed rule.Orders = refl
as_printed rule.Listed = refl
as_printed rule.Signatures = refl
as_printed rule.Account = refl
as_printed rule.Tan = refl
as_printed rule.Release = refl
as_printed rule.Procedure = refl

pub returns : goal.returns
returns c = as_printed
