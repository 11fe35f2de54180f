use Rattle.std.proofs.Common.{◌∙◌, ◌<◌, ◌≤◌, [], ◌∷◌, ◌++◌, ap, arith, length, List, map, Ok, refl, Result, subst, sym, take, ℕ}
use Rattle.std.proofs.lemmas.List.{map_push, take-map}
use Rattle.std.proofs.lemmas.Result.{err_from_is_err_and}
use Rattle.toml.specs.declared.value.Value.{Value}
use Rattle.toml.specs.Data.{Data}
use Rattle.toml.specs.View.{view}
use Rattle.fints_script_rows.specs.Fields.{field_in, field_value}
use Rattle.fints_script_rows.specs.Parts.{Gives}
use Rattle.fints_script_rows.specs.declared.fault.FaultKind.{FaultKind}
use Rattle.fints_script_rows.specs.declared.fault.Place.TheVariants as places
use Rattle.fints_script_rows.specs.declared.fields.NamedField.{NamedField}
use Rattle.fints_script.proofs.RowLemmas.{read_all, read_more, read_stop}
use Rattle.fints_script.proofs.field_rows.read_fields.Goals as goal

behind : (vs : List Value) (i : ℕ) (v : Value) (r : Result NamedField FaultKind)
    → Gives field_value r (field_in (map view (take i vs)) (view v))
    → Gives field_value r (field_in (take i (map view vs)) (view v))
behind vs i v r h = subst (λ (rows : List Data). Gives field_value r (field_in rows (view v))) (sym (take-map view i vs)) h

pub loop-i-init : goal.loop-i-init
loop-i-init c = record {
  dialog = c.dialog_field.result;
  others = [];
  all = c.in_ok-push.ensures.items ∙ ap (λ (fs : List NamedField). fs ++ c.dialog_field.result ∷ []) c.new-fields.ensures.items;
  built_in = c.dialog_field.ensures;
  each = refl;
}

pub returns-in_err-placed-clause-fault : goal.returns-in_err-placed-clause-fault
returns-in_err-placed-clause-fault c =
    let rows = c.args.rows.now in
    let here : c.loop-i.i < length c.args.rows.now = omega arith in
    let gives = behind rows c.loop-i.i c.index-rows-i.result c.field_in-field.result c.field_in-field.ensures in
    let stop =
    read_stop field_value (λ n. places.Field n) (λ i row. field_in (take i (map view rows)) row) rows
    c.loop-i.i c.index-rows-i.result c.field_in-field.result
    (map field_value c.loop-i.invariant.others) here c.index-rows-i.is c.loop-i.invariant.each gives
    c.in_err-placed.field-0.0 (sym c.placed.ensures ∙ c.in_err-placed.was) in
    let p = err_from_is_err_and c.from_residual-in_err-placed.result c.from_residual-in_err-placed.ensures.1 in
    rw (p.1, p.2) stop

pub loop-i-preserved : goal.loop-i-preserved
loop-i-preserved c =
    let rows = c.args.rows.now in
    let here : c.loop-i.i < length c.args.rows.now = omega arith in
    let field = c.in_ok-placed.field-0 in
    let others = c.loop-i.invariant.others in
    let gives = behind rows c.loop-i.i c.index-rows-i.result c.field_in-field.result c.field_in-field.ensures in
    record {
      dialog = c.loop-i.invariant.dialog;
      others = others ++ field ∷ [];
      all = c.in_ok-push-2.ensures.items ∙ ap (λ (xs : List NamedField). xs ++ field ∷ []) c.loop-i.invariant.all;
      built_in = c.loop-i.invariant.built_in;
      each =
          read_more field_value (λ n. places.Field n) (λ i row. field_in (take i (map view rows)) row) rows
          c.loop-i.i c.index-rows-i.result c.field_in-field.result (map field_value others) here
          c.index-rows-i.is c.loop-i.invariant.each gives
          field (sym c.placed.ensures ∙ c.in_ok-placed.was)
          ∙ ap Ok (sym (map_push field_value others field));
    }

pub returns-clause-fields : goal.returns-clause-fields
returns-clause-fields c =
    let rows = c.args.rows.now in
    let all : length c.args.rows.now ≤ c.loop-i.i = omega arith in
    let others = map field_value c.loop-i.invariant.others in (
      others,
      read_all (λ n. places.Field n) (λ i row. field_in (take i (map view rows)) row) rows c.loop-i.i (Ok others) all c.loop-i.invariant.each,
      ap (map field_value) (c.in_ok-new.ensures ∙ c.loop-i.invariant.all) ∙ ap (λ first. first ∷ others) c.loop-i.invariant.built_in,
    )
