use Rattle.std.proofs.Common.{◌∙◌, ◌<◌, ap, arith, length, List, map, Ok, Result, subst, sym, take}
use Rattle.std.proofs.lemmas.List.{take-map}
use Rattle.std.proofs.lemmas.Result.{err_from_is_err_and}
use Rattle.toml.specs.declared.value.Value.{Value}
use Rattle.toml.specs.Data.{Data}
use Rattle.toml.specs.View.{view}
use Rattle.fints_script_rows.specs.Parts.{Gives}
use Rattle.fints_script_rows.specs.declared.fault.FaultKind.{FaultKind}
use Rattle.fints_script_rows.specs.declared.fault.Place.TheVariants as places
use Rattle.fints_script_rows.specs.declared.fields.NamedField.{NamedField}
use Rattle.fints_script_templates.specs.Signers.{signer_in}
use Rattle.fints_script_templates.specs.declared.template.Signer.{Signer}
use Rattle.fints_script.proofs.RowLemmas.{read_more, read_stop}
use Rattle.fints_script.proofs.rows.read_signers.Goals as goal

behind : (fields : List NamedField) (vs : List Value) (i : _) (v : Value) (r : Result Signer FaultKind)
    → Gives (λ s. s) r (signer_in fields (map view (take i vs)) (view v))
    → Gives (λ s. s) r (signer_in fields (take i (map view vs)) (view v))
behind fields vs i v r h = subst (λ (rows : List Data). Gives (λ s. s) r (signer_in fields rows (view v))) (sym (take-map view i vs)) h

pub returns-in_err-placed : goal.returns-in_err-placed
returns-in_err-placed c =
    let fields = c.args.fields.now in
    let rows = c.args.rows.now in
    let here : c.loop-i.i < length c.args.rows.now = omega arith in
    let gives = behind fields rows c.loop-i.i c.index-rows-i.result c.signer_in-signer.result c.signer_in-signer.ensures in
    let stop =
    read_stop (λ s. s) (λ n. places.Signer n) (λ i row. signer_in fields (take i (map view rows)) row)
    rows c.loop-i.i c.index-rows-i.result c.signer_in-signer.result c.loop-i.signers.items here
    c.index-rows-i.is c.loop-i.invariant gives
    c.in_err-placed.field-0.0 (sym c.placed.ensures ∙ c.in_err-placed.was) in
    let p = err_from_is_err_and c.from_residual.result c.from_residual.ensures.1 in
    rw (p.1, p.2) stop

pub loop-i-preserved : goal.loop-i-preserved
loop-i-preserved c =
    let fields = c.args.fields.now in
    let rows = c.args.rows.now in
    let here : c.loop-i.i < length c.args.rows.now = omega arith in
    let gives = behind fields rows c.loop-i.i c.index-rows-i.result c.signer_in-signer.result c.signer_in-signer.ensures in
    read_more (λ s. s) (λ n. places.Signer n) (λ i row. signer_in fields (take i (map view rows)) row) rows
    c.loop-i.i c.index-rows-i.result c.signer_in-signer.result c.loop-i.signers.items here
    c.index-rows-i.is c.loop-i.invariant gives
    c.in_ok-placed.field-0 (sym c.placed.ensures ∙ c.in_ok-placed.was)
    ∙ ap Ok (sym c.in_ok-push.ensures.items)
