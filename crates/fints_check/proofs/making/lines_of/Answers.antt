use Rattle.std.proofs.Common.{ℕ, ◌≡◌, ◌+◌, ◌-◌, List, [], ◌∷◌, Some, take, ap, sym, subst, ◌∙◌, arith}
use Rattle.std.specs.List.{All, slice_get}
use Rattle.std.proofs.lemmas.List.{map-append}
use Rattle.std.proofs.lemmas.List.Elements.{All-append, All-cons}
use Rattle.fints_script_fields.specs.Names.{IsName}
use Rattle.fints_script.specs.Plans.{PlanValue}
use Rattle.fints_script.specs.Scripts.{IsRead}
use Rattle.fints_script.specs.Steps.{StepValue}
use Rattle.fints_check.specs.Certificates.{line_figures, line_names, step_names}
use Rattle.fints_check.specs.declared.certificate.Line.{Line}
use Rattle.fints_check_findings.specs.Figures.{FiguresAre}
use Rattle.fints_check_findings.proofs.Checking.{one_more}
use Rattle.fints_check.proofs.Numbered.{names_more}
use Rattle.fints_check.proofs.making.lines_of.Goals as goal

pub loop-i-preserved : goal.loop-i-preserved
loop-i-preserved c =
    let script = c.args.report.now.plan.script in
    let steps = script.steps in
    let i : ℕ = c.loop-i.i in
    let old = c.loop-i.lines.items in
    let line : Line = record { name = c.name-name.result; reached = c.reached.result } in
    let back : i + 1 - 1 ≡ i = omega arith in
    let at : slice_get steps (i + 1 - 1) ≡ Some c.step.result.now =
    subst (λ (p : PlanValue). slice_get p.script.steps (i + 1 - 1) ≡ Some c.step.result.now)
    c.plan-plan.ensures c.step.ensures.step in
    let there : slice_get steps i ≡ Some c.step.result.now = subst (λ (k : ℕ). slice_get steps k ≡ Some c.step.result.now) back at in
    record {
      names =
          subst (λ (lines : List Line). line_names lines ≡ step_names (take (i + 1) steps))
          (sym c.in_ok-push.ensures.items)
          (names_more (λ (x : Line). x.name) (λ (s : StepValue). s.name) old steps i line
          c.step.result.now there c.name-name.ensures c.loop-i.invariant.names);
      figures =
          one_more (FiguresAre script) i (line_figures old) (line_figures c.push.new.self.items) c.reached.result
          (ap line_figures c.in_ok-push.ensures.items ∙ map-append (λ (x : Line). x.reached) old (line ∷ []))
          c.reached.ensures.greatest c.loop-i.invariant.figures;
      are_names =
          subst (All (λ (x : Line). IsName x.name)) (sym c.in_ok-push.ensures.items)
          (All-append (λ (x : Line). IsName x.name) old (line ∷ []) c.loop-i.invariant.are_names
          (All-cons (λ (x : Line). IsName x.name) line [] c.as_bytes.ensures.name
          (λ k d h. absurd (omega (arith, h)))));
    }

pub returns-clause-read : goal.returns-clause-read
returns-clause-read c = subst (λ (p : PlanValue). IsRead p.script) c.plan-plan.ensures c.step_count-i-end.ensures.read
