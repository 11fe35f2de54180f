use Rattle.std.proofs.Common.{◌∙◌, ap, map, sym}
use Rattle.std.proofs.lemmas.Result.{err_from_is_err_and}
use Rattle.toml.specs.View.{view, table_view}
use Rattle.fints_script_rows.specs.Parts.{both}
use Rattle.fints_script.proofs.TopErrors.{no_top}
use Rattle.fints_script.proofs.top.top_in.Goals as goal

pub returns-in_err-fields : goal.returns-in_err-fields
returns-in_err-fields c =
    let ms = table_view c.args.table.now in
    let e =
    no_top (λ v. map view v.now) c.rows_at.result c.rows_at-2.result c.step_rows.result ms
    c.in_err-fields.field-0.0 (sym c.only_keys.ensures ∙ c.if-not-only_keys.false) c.rows_at.ensures
    c.rows_at-2.ensures c.step_rows.ensures
    (ap (λ r. both r c.step_rows.result) (sym c.both-rows.ensures) ∙ sym c.both.ensures ∙ c.in_err-fields.was) in
    let p = err_from_is_err_and c.from_residual.result c.from_residual.ensures.1 in
    rw (p.1, p.2) (sym e)
