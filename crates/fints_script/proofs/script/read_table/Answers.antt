use Rattle.std.proofs.Common.{◌∙◌, sym}
use Rattle.toml.specs.View.{table_view}
use Rattle.std.proofs.lemmas.Result.{err_from_is_err_and}
use Rattle.fints_script.specs.Around.{seen_top}
use Rattle.fints_script.proofs.TableLemmas.{body_faults, field_faults, rows_kept, top_faults, top_read}
use Rattle.fints_script.proofs.script.read_table.Goals as goal

pub read_fields-requires : goal.read_fields-requires
read_fields-requires c = (rows_kept c.top_in.result (table_view c.args.table.now) c.top_in.ensures c.in_ok-top.top (sym c.placed.ensures ∙ c.in_ok-top.was)).0

pub body_in-requires-clause-signers : goal.body_in-requires-clause-signers
body_in-requires-clause-signers c =
    (rows_kept c.top_in.result (table_view c.args.table.now) c.top_in.ensures c.in_ok-top.top
    (sym c.placed.ensures ∙ c.in_ok-top.was)).1

pub body_in-requires-clause-steps : goal.body_in-requires-clause-steps
body_in-requires-clause-steps c =
    (rows_kept c.top_in.result (table_view c.args.table.now) c.top_in.ensures c.in_ok-top.top
    (sym c.placed.ensures ∙ c.in_ok-top.was)).2

pub returns-clause-script : goal.returns-clause-script
returns-clause-script c = record {
  top = seen_top c.in_ok-top.top;
  is_top = top_read c.top_in.result (table_view c.args.table.now) c.top_in.ensures c.in_ok-top.top (sym c.placed.ensures ∙ c.in_ok-top.was);
  fields = c.in_ok-fields.ensures.fields;
  is = c.in_ok-body.ensures;
}

pub returns-in_err-top-clause-fault : goal.returns-in_err-top-clause-fault
returns-in_err-top-clause-fault c =
    let f = top_faults c.top_in.result (table_view c.args.table.now) c.top_in.ensures c.in_err-top.field-0.0 (sym c.placed.ensures ∙ c.in_err-top.was) in
    let q = err_from_is_err_and c.from_residual.result c.from_residual.ensures.1 in
    rw (q.1, q.2) f

pub returns-in_err-fields-clause-fault : goal.returns-in_err-fields-clause-fault
returns-in_err-fields-clause-fault c =
    let f =
    field_faults c.top_in.result (table_view c.args.table.now) c.top_in.ensures c.in_ok-top.top
    c.in_err-fields.field-0.0 (sym c.placed.ensures ∙ c.in_ok-top.was) c.in_err-fields.ensures.fault in
    let q = err_from_is_err_and c.from_residual-in_err-fields.result c.from_residual-in_err-fields.ensures.1 in
    rw (q.1, q.2) f

pub returns-in_err-body-clause-fault : goal.returns-in_err-body-clause-fault
returns-in_err-body-clause-fault c =
    let f =
    body_faults c.top_in.result (table_view c.args.table.now) c.top_in.ensures c.in_ok-top.top
    c.in_ok-fields.fields c.in_err-body.field-0.0 (sym c.placed.ensures ∙ c.in_ok-top.was)
    c.in_ok-fields.ensures.fields c.in_err-body.ensures in
    let q = err_from_is_err_and c.from_residual-in_err-body.result c.from_residual-in_err-body.ensures.1 in
    rw (q.1, q.2) f
