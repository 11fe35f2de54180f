use Rattle.std.proofs.Common.{◌≡◌, ◌⊎◌, ◌∙◌, ◌<◌, ap, arith, Err, length, map, Ok, subst, sym}
use Rattle.std.proofs.lemmas.Result.{err_from_is_err_and}
use Rattle.toml.specs.View.{view}
use Rattle.fints_script_rows.specs.Rows.{no_memory, rows_from}
use Rattle.fints_script_rows.specs.declared.fault.Place.TheVariants as places
use Rattle.fints_script.specs.Around.{surroundings_of}
use Rattle.fints_script.specs.Steps.{step_in}
use Rattle.fints_script.proofs.RowLemmas.{read_more, read_stop}
use Rattle.fints_script.proofs.rows.read_steps.Goals as goal

pub returns-in_err-placed : goal.returns-in_err-placed
returns-in_err-placed c =
    let rows = c.as_slice-rows.result.now in
    let here : c.loop-i.i < length c.as_slice-rows.result.now = omega arith in
    let stop =
    read_stop (λ s. s) (λ n. places.Step n) (step_in (surroundings_of c.args.around.now)) rows c.loop-i.i
    c.index-rows-i.result c.step_in-step.result c.loop-i.steps.items here c.index-rows-i.is
    c.loop-i.invariant c.step_in-step.ensures
    c.in_err-placed.field-0.0 (sym c.placed.ensures ∙ c.in_err-placed.was) in
    let told =
    subst
    (λ vs.
    (c.in_err-placed.field-0.0 ≡ no_memory)
    ⊎ (rows_from (λ n. places.Step n) (step_in (surroundings_of c.args.around.now)) 0
    (map view vs) ≡ Err c.in_err-placed.field-0.0))
    c.as_slice-rows.ensures stop in
    let p = err_from_is_err_and c.from_residual.result c.from_residual.ensures.1 in
    rw (p.1, p.2) told

pub loop-i-preserved : goal.loop-i-preserved
loop-i-preserved c =
    let rows = c.as_slice-rows.result.now in
    let here : c.loop-i.i < length c.as_slice-rows.result.now = omega arith in
    read_more (λ s. s) (λ n. places.Step n) (step_in (surroundings_of c.args.around.now)) rows c.loop-i.i
    c.index-rows-i.result c.step_in-step.result c.loop-i.steps.items here c.index-rows-i.is
    c.loop-i.invariant c.step_in-step.ensures
    c.in_ok-placed.field-0 (sym c.placed.ensures ∙ c.in_ok-placed.was)
    ∙ ap Ok (sym c.in_ok-push.ensures.items)
