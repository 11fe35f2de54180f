use Rattle.std.proofs.Common.{ℕ, ◌+◌, ◌<◌, ◌≤◌, ◌≡◌, List, Bool, Option, Some, None, false, length, get_or, map, refl, ap, arith, sym, subst, ◌∙◌}
use Rattle.std.specs.Prelude.{◌↔◌, IsTrue, Vec, is_some}
use Rattle.std.proofs.lemmas.Option.{same_Some}
use Rattle.std.specs.declared.alloc.Global.{Global}
use Rattle.fints_check_reach.specs.Numbers.{AreGreatest}
use Rattle.fints_script.specs.Numbered.{numbered, numbered_at}
use Rattle.fints_script.specs.Plans.{IsClosed}
use Rattle.fints_check_findings.specs.Figures.{FiguresAre}
use Rattle.fints_check_findings.specs.Findings.{IsReal}
use Rattle.fints_check_findings.specs.Laws.{release_of}
use Rattle.fints_script.specs.Scripts.{ScriptValue}
use Rattle.fints_script.specs.Steps.{StepValue}
use Rattle.fints_check_findings.specs.AtStep.{AtStepValue}
use Rattle.fints_check_findings.specs.Searching.{AreFiguresAt, AreFoundTo, IsGreatestAt}
use Rattle.fints_check_findings.specs.StepFacts.{AreFactsAt, AreMessageFacts}
use Rattle.fints_check_findings.specs.declared.finding.Finding.{Finding}
use Rattle.fints_check_findings.specs.declared.finding.Reached.{Reached}
use Rattle.fints_check_findings.proofs.AtSteps.{from_same, from_step, to_step}
use Rattle.fints_check_findings.proofs.Checking.{cell_at, clean_permits, facts_all, figures_all, greatest_at, none_yet, nothing_real, one_more, reached_more, real_within, unreached, visits_told}
use Rattle.fints_check_findings.proofs.Founds.{found_all, found_first, found_none}
use Rattle.fints_check_findings.proofs.Holding.{cell_tells}
use Rattle.fints_check_findings.proofs.Reals.{figures_are, number_small}
use Rattle.fints_check_findings.proofs.LawLemmas.{held_is_unreleased, release_is_left, unreleased_is_real}
use Rattle.fints_script.proofs.LawLemmas.{sound_of}
use Rattle.fints_check_findings.proofs.report.check.Goals as goal
use Rattle.fints_check_findings.proofs.report.check.Goals.{in-None, in-Some+in_ok-search-in-Some}

-- a number at a place is the greatest of the step after it
peak_at : (steps : List StepValue) (numbers : List (Option ℕ)) (i number : ℕ) (cell : Option ℕ)
    → AreGreatest steps numbers → i < length steps → cell ≡ get_or numbers i cell → cell ≡ Some number
    → IsGreatestAt steps (i + 1) number
peak_at steps numbers i number cell greatest within at is =
    greatest_at steps numbers (i + 1) number greatest
    (cell_at numbers i cell (omega (arith, greatest.long, within)) at ∙ ap (λ (x : Option ℕ). Some x) is)

pub loop-i-init : goal.loop-i-init
loop-i-init c =
    let script = c.args.plan.now.script in
    let granted = c.args.permissions.now in
    let sound = sound_of c.step_count-count.ensures.read in
    record {
      findings =
          subst (AreFoundTo granted script 1 1 0) (sym c.new-findings.ensures.items)
          (found_first granted script (λ f real. (real_within granted script sound f real).0));
      figures = none_yet (FiguresAre script) c.in_ok-figures.figures.items c.in_ok-figures.ensures.items;
      facts = none_yet (AreFactsAt granted script) c.in_ok-facts.facts.items c.in_ok-facts.ensures.items;
      reached = ap (λ (xs : List (Option Reached)). map is_some xs) c.in_ok-figures.ensures.items;
    }

pub figures_at-reached-requires-clause-least : goal.figures_at-reached-requires-clause-least
figures_at-reached-requires-clause-least c =
    let script = c.args.plan.now.script in
    (number_small script c.args.permissions.now (sound_of c.step_count-count.ensures.read) (c.loop-i.i + 1) c.in-Some.number
    (peak_at script.steps c.in_ok-numbers.numbers.greatest.items c.loop-i.i c.in-Some.number c.index.result.now
    c.in_ok-numbers.ensures.greatest (omega (arith, c.step_count-count.ensures.count)) c.index.ensures
    c.in-Some.is)).0

pub figures_at-reached-requires-clause-most : goal.figures_at-reached-requires-clause-most
figures_at-reached-requires-clause-most c =
    let script = c.args.plan.now.script in
    (number_small script c.args.permissions.now (sound_of c.step_count-count.ensures.read) (c.loop-i.i + 1) c.in-Some.number
    (peak_at script.steps c.in_ok-numbers.numbers.greatest.items c.loop-i.i c.in-Some.number c.index.result.now
    c.in_ok-numbers.ensures.greatest (omega (arith, c.step_count-count.ensures.count)) c.index.ensures
    c.in-Some.is)).1

pub new-requires-clause-figures : goal.new-requires-clause-figures
new-requires-clause-figures c =
    subst (λ (script : ScriptValue). AreFiguresAt script c.new-step.result.step c.figures_at-reached.result)
    (sym c.new-step.ensures.script)
    (c.figures_at-reached.ensures.figures c.new-step.result.step c.new-step.ensures.step)

pub new-requires-clause-greatest : goal.new-requires-clause-greatest
new-requires-clause-greatest c =
    let script = c.args.plan.now.script in
    to_step (λ _ x n. IsGreatestAt x.steps n c.figures_at-reached.result.number) c.new-step.result
    c.args.permissions.now script (c.loop-i.i + 1) c.new-step.ensures.granted c.new-step.ensures.script
    c.new-step.ensures.number
    (subst (λ (k : ℕ). IsGreatestAt script.steps (c.loop-i.i + 1) k) (sym c.figures_at-reached.ensures.number)
    (peak_at script.steps c.in_ok-numbers.numbers.greatest.items c.loop-i.i c.in-Some.number c.index.result.now
    c.in_ok-numbers.ensures.greatest (omega (arith, c.step_count-count.ensures.count)) c.index.ensures
    c.in-Some.is))

pub new-requires-clause-unreleased : goal.new-requires-clause-unreleased
new-requires-clause-unreleased c =
    let script = c.args.plan.now.script in
    let granted = c.args.permissions.now in
    let sound = sound_of c.step_count-count.ensures.read in
    let closed = subst (IsClosed script) (sym c.requires) c.step_count-count.ensures.closed in
    let numbers = c.in_ok-numbers.numbers.greatest.items in
    let holders = c.in_ok-holders.holders.items in
    let greatest = c.in_ok-numbers.ensures.greatest in
    let are = c.in_ok-holders.ensures in
    let cell = cell_at holders c.loop-i.i c.index-in-Some.result.now (omega (arith, are.long, c.step_count-count.ensures.count)) c.index-in-Some.ensures in
    to_step (λ g x n. IsTrue c.is_some.result ↔ IsReal g x (release_of n)) c.new-step.result granted script
    (c.loop-i.i + 1) c.new-step.ensures.granted c.new-step.ensures.script c.new-step.ensures.number
    (subst (λ (b : Bool). IsTrue b ↔ IsReal granted script (release_of (c.loop-i.i + 1))) (sym c.is_some.ensures)
    (cell_tells granted script numbers holders greatest are
    (λ s real. (release_is_left granted script (release_of s) sound refl real).1)
    (λ t s. held_is_unreleased script granted.orders t s sound closed)
    (λ v s. unreleased_is_real granted script v s sound closed) (c.loop-i.i + 1) c.index-in-Some.result.now cell))

pub loop-i-preserved : goal.loop-i-preserved
loop-i-preserved c =
    let script = c.args.plan.now.script in
    let granted = c.args.permissions.now in
    let sound = sound_of c.step_count-count.ensures.read in
    let numbers = c.in_ok-numbers.numbers.greatest.items in
    let greatest = c.in_ok-numbers.ensures.greatest in
    let n : ℕ = c.loop-i.i + 1 in
    let cell : numbered numbers (c.loop-i.i + 1) ≡ Some c.index.result.now =
    cell_at numbers c.loop-i.i c.index.result.now
    (omega (arith, greatest.long, c.step_count-count.ensures.count)) c.index.ensures in
    let P : Vec Finding Global → Type 0 = λ v. AreFoundTo granted script (c.loop-i.i + 1 + 1) 1 0 v.items in
    let Q : Option Reached → Type 0 = λ figures. FiguresAre script (c.loop-i.i + 1) figures in
    let R : Option Reached → Type 0 = λ figures. is_some figures ≡ is_some c.index.result.now in
    let all : P c.match-index.findings × Q c.match-index.cell × R c.match-index.cell = elim c.match-index.branch [
      | in-None w ↦
          let none : numbered numbers (c.loop-i.i + 1) ≡ Some None = cell ∙ ap (λ x. Some x) w.in-None.is in (
            subst P (sym w.findings-is)
                (found_none granted script (c.loop-i.i + 1) c.loop-i.findings.items
                (nothing_real granted script numbers (c.loop-i.i + 1) greatest sound none)
                c.loop-i.invariant.findings),
            subst Q (sym w.cell-is) (λ m s. unreached script numbers (c.loop-i.i + 1) s.values m greatest sound none s.sends s.of),
            subst R (sym w.cell-is) (sym (ap (λ (x : Option ℕ). is_some x) w.in-None.is)),
          )
      | in-Some+in_ok-search-in-Some w ↦
          let peak =
          subst (λ (k : ℕ). IsGreatestAt script.steps (c.loop-i.i + 1) k)
          (sym w.figures_at-reached.ensures.number)
          (peak_at script.steps numbers c.loop-i.i w.in-Some.number c.index.result.now greatest
          (omega (arith, c.step_count-count.ensures.count)) c.index.ensures w.in-Some.is) in
          let step = numbered_at script.steps (c.loop-i.i + 1) (omega arith) (omega (arith, c.step_count-count.ensures.count)) in (
            subst P (sym w.findings-is)
                (from_step (λ g x n. AreFoundTo g x (n + 1) 1 0 w.search.new.findings.items) c.new-step.result
                granted script (c.loop-i.i + 1) c.new-step.ensures.granted c.new-step.ensures.script
                c.new-step.ensures.number
                (subst
                (λ (a : AtStepValue).
                AreFoundTo a.granted a.script (a.n + 1) 1 0 w.search.new.findings.items)
                w.new.ensures w.in_ok-search-in-Some.ensures)),
            subst Q (sym w.cell-is)
                (figures_are script granted sound (c.loop-i.i + 1) step.0 w.figures_at-reached.result step.1
                peak (w.figures_at-reached.ensures.figures step.0 step.1)),
            subst R (sym w.cell-is) (sym (ap (λ (x : Option ℕ). is_some x) w.in-Some.is)),
          )
    ] in
    let facts : AreFactsAt granted script (c.loop-i.i + 1) c.message_facts.result =
    λ step at.
    from_same (λ g x s. AreMessageFacts g x s false c.message_facts.result) c.new-step.result granted script
    step c.new-step.ensures.granted c.new-step.ensures.script
    (same_Some c.new-step.result.step step (sym c.new-step.ensures.step ∙ at)) c.message_facts.ensures in
    record {
      findings = all.0;
      figures =
          one_more (FiguresAre script) c.loop-i.i c.loop-i.figures.items c.push-in-loop-i.new.self.items
          c.match-index.cell c.in_ok-push-2.ensures.items all.1 c.loop-i.invariant.figures;
      facts =
          one_more (AreFactsAt granted script) c.loop-i.i c.loop-i.facts.items c.push.new.self.items
          c.message_facts.result c.in_ok-push.ensures.items facts c.loop-i.invariant.facts;
      reached =
          reached_more c.loop-i.figures.items c.push-in-loop-i.new.self.items c.match-index.cell numbers c.loop-i.i
          c.index.result.now c.in_ok-push-2.ensures.items
          (omega (arith, greatest.long, c.step_count-count.ensures.count)) c.index.ensures all.2
          c.loop-i.invariant.reached;
    }

pub invariant_of-result : goal.invariant_of-result
invariant_of-result c =
    let script = c.args.plan.now.script in
    let granted = c.args.permissions.now in
    let sound = sound_of c.step_count-count.ensures.read in
    let all : c.loop-i.i ≡ length script.steps = omega (arith, c.loop-i-test.false, c.loop-i.auto.i-end, c.step_count-count.ensures.count) in (
      c.requires,
      found_all granted script c.loop-i.i c.loop-i.findings.items
          (λ f real. subst (λ (k : ℕ). f.step ≤ k) (sym all) (real_within granted script sound f real).1)
          c.loop-i.invariant.findings,
      figures_all script c.loop-i.i c.loop-i.figures.items all c.loop-i.invariant.figures,
      visits_told script.steps c.loop-i.figures.items c.in_ok-numbers.numbers.greatest.items c.loop-i.i
          c.in_ok-numbers.numbers.visits (omega (arith, c.in_ok-numbers.ensures.greatest.long, all))
          c.loop-i.invariant.reached c.in_ok-numbers.ensures.visits,
      c.in_ok-numbers.ensures.greatest,
      c.in_ok-numbers.ensures.sources,
      c.in_ok-holders.ensures,
      facts_all granted script c.loop-i.i c.loop-i.facts.items all c.loop-i.invariant.facts,
      c.step_count-count.ensures.read,
      c.step_count-count.ensures.closed,
    )

pub returns-clause-exactly : goal.returns-clause-exactly
returns-clause-exactly c =
    let script = c.args.plan.now.script in
    let granted = c.args.permissions.now in
    let sound = sound_of c.step_count-count.ensures.read in
    let all : c.loop-i.i ≡ length script.steps = omega (arith, c.loop-i-test.false, c.loop-i.auto.i-end, c.step_count-count.ensures.count) in
    (found_all granted script c.loop-i.i c.loop-i.findings.items
    (λ f real. subst (λ (k : ℕ). f.step ≤ k) (sym all) (real_within granted script sound f real).1)
    c.loop-i.invariant.findings).exactly

pub returns-clause-permitted : goal.returns-clause-permitted
returns-clause-permitted c =
    let script = c.args.plan.now.script in
    let granted = c.args.permissions.now in
    let sound = sound_of c.step_count-count.ensures.read in
    let all : c.loop-i.i ≡ length script.steps = omega (arith, c.loop-i-test.false, c.loop-i.auto.i-end, c.step_count-count.ensures.count) in
    clean_permits granted script c.loop-i.findings.items sound
    (found_all granted script c.loop-i.i c.loop-i.findings.items
    (λ f real. subst (λ (k : ℕ). f.step ≤ k) (sym all) (real_within granted script sound f real).1)
    c.loop-i.invariant.findings).exactly

pub returns-clause-visits : goal.returns-clause-visits
returns-clause-visits c =
    let script = c.args.plan.now.script in
    let all : c.loop-i.i ≡ length script.steps = omega (arith, c.loop-i-test.false, c.loop-i.auto.i-end, c.step_count-count.ensures.count) in
    visits_told script.steps c.loop-i.figures.items c.in_ok-numbers.numbers.greatest.items c.loop-i.i
    c.in_ok-numbers.numbers.visits (omega (arith, c.in_ok-numbers.ensures.greatest.long, all))
    c.loop-i.invariant.reached c.in_ok-numbers.ensures.visits
