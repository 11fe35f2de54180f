use Rattle.std.proofs.Common.{◌∙◌, ap, map, sym}
use Rattle.toml.proofs.Views.{view-String}
use Rattle.toml.specs.View.{view}
use Rattle.fints_script.specs.Steps.{target_in, target_named}
use Rattle.fints_script.proofs.branches.target_in.Goals as goal

pub returns-in-String : goal.returns-in-String
returns-in-String c =
    let rows = map view c.args.at.rows.now in
    c.target_named.ensures ∙ ap (target_named rows c.args.at.row) c.as_str.ensures.value
    ∙ sym (ap (target_in rows c.args.at.row) (ap view c.in-String.is ∙ view-String c.in-String.text))
