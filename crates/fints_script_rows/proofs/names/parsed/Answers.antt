use Rattle.std.proofs.Common.{◌∙◌, ap}
use Rattle.fints_script_rows.specs.RowNames.{parsed}
use Rattle.fints_script_rows.proofs.NameTests.{is_parsed}
use Rattle.fints_script_rows.proofs.names.parsed.Goals as goal

pub returns : goal.returns
returns c = is_parsed c.parse.result c.as_bytes.result.now c.parse.ensures ∙ ap parsed c.as_bytes.ensures.value
