use Rattle.std.proofs.Common.{ap, not}
use Rattle.fints_script_fields.specs.NameSetLaws.{lacked_is_new}
use Rattle.fints_script_cases.specs.declared.values.NamedValue.{NamedValue}
use Rattle.fints_script_cases.proofs.case_reading.is_new.Goals as goal

pub returns : goal.returns
returns c =
    lacked_is_new (λ (pair : NamedValue). pair.name) c.args.taken.now.case.values c.args.name
    c.args.taken.now.names _ c.requires (ap not c.contains.ensures)
