use Rattle.std.proofs.Common.{◌≡◌, ◌+◌, ◌-◌, ◌<◌, ℕ, Some, length, subst, arith}
use Rattle.std.specs.Prelude.{slice_get}
use Rattle.std.proofs.lemmas.Option.{slice_get-get_or}
use Rattle.fints_script.specs.Numbered.{numbered_at, numbered_from}
use Rattle.fints_cli_drawings.proofs.StepTexts.{written_more}
use Rattle.fints_cli_drawings.proofs.drawing.write_steps.Goals as goal

pub loop-i-preserved : goal.loop-i-preserved
loop-i-preserved c =
    let steps = c.args.plan.now.script.steps in
    let figures = c.args.figures.now in
    let i : ℕ = c.loop-i.i in
    let less : i < length figures = omega (arith, c.loop-i-test.true) in
    let back : i + 1 - 1 ≡ i = omega arith in
    let step = numbered_at steps (i + 1) (omega arith) (omega (arith, less, c.requires.figures)) in
    let at : slice_get steps i ≡ Some step.0 =
    subst (λ (k : ℕ). slice_get steps k ≡ Some step.0) back (numbered_from steps (i + 1) step.0 step.1) in
    written_more steps figures c.args.findings.now i step.0 _ c.args.text.now.items c.loop-i.text.items
    c.write_step.new.text.items at (slice_get-get_or figures i _ less) c.loop-i.invariant
    (c.in_ok-write_step.ensures step.0 step.1)
