use Rattle.std.proofs.Common.{ℕ, ◌+◌, ◌≡◌, [], Option, Some, None, length, ap, arith, sym, subst, ◌∙◌}
use Rattle.fints_params.specs.declared.rows.Usage.TheVariants.{Locked}
use Rattle.fints_rules_permissions.specs.Permits.{Granted}
use Rattle.fints_check_findings.specs.Figures.{FiguresAre}
use Rattle.fints_check_findings.specs.Searching.{IsGreatestAt}
use Rattle.fints_check_findings.specs.declared.finding.Reached.{Reached}
use Rattle.fints_check_findings.proofs.Checking.{cell_at, figures_all, greatest_at, none_yet, one_more, unreached}
use Rattle.fints_check_findings.proofs.Reals.{figures_are, number_small}
use Rattle.fints_script.proofs.LawLemmas.{sound_of}
use Rattle.fints_script.specs.Numbered.{numbered, numbered_at}
use Rattle.fints_check_findings.proofs.figuring.greatest_figures.Goals as goal
use Rattle.fints_check_findings.proofs.figuring.greatest_figures.Goals.{in-None, in-Some}

-- what grants nothing: figures depend on no bank
nothing : Granted
nothing = record {
  rows = record {
    bank = record { country = []; code = []; kinds = 0; protocols = []; kilobytes = 0 };
    orders = [];
    pins = [];
    tans = [];
    usage = Locked;
    accounts = [];
    skipped = 0;
  };
  orders = [];
}

pub loop-i-init : goal.loop-i-init
loop-i-init c = none_yet (FiguresAre c.args.plan.now.script) c.in_ok-figures.figures.items c.in_ok-figures.ensures.items

pub figures_at-requires-clause-least : goal.figures_at-requires-clause-least
figures_at-requires-clause-least c =
    let script = c.args.plan.now.script in
    let numbers = c.in_ok-numbers.numbers.greatest.items in
    let greatest = c.in_ok-numbers.ensures.greatest in
    let cell = cell_at numbers c.loop-i.i c.index.result.now (omega (arith, greatest.long, c.step_count-count.ensures.count)) c.index.ensures in
    (number_small script nothing (sound_of c.step_count-count.ensures.read) (c.loop-i.i + 1) c.in-Some.number
    (greatest_at script.steps numbers (c.loop-i.i + 1) c.in-Some.number greatest
    (cell ∙ ap (λ (x : Option ℕ). Some x) c.in-Some.is))).0

pub figures_at-requires-clause-most : goal.figures_at-requires-clause-most
figures_at-requires-clause-most c =
    let script = c.args.plan.now.script in
    let numbers = c.in_ok-numbers.numbers.greatest.items in
    let greatest = c.in_ok-numbers.ensures.greatest in
    let cell = cell_at numbers c.loop-i.i c.index.result.now (omega (arith, greatest.long, c.step_count-count.ensures.count)) c.index.ensures in
    (number_small script nothing (sound_of c.step_count-count.ensures.read) (c.loop-i.i + 1) c.in-Some.number
    (greatest_at script.steps numbers (c.loop-i.i + 1) c.in-Some.number greatest
    (cell ∙ ap (λ (x : Option ℕ). Some x) c.in-Some.is))).1

pub loop-i-preserved : goal.loop-i-preserved
loop-i-preserved c =
    let script = c.args.plan.now.script in
    let sound = sound_of c.step_count-count.ensures.read in
    let numbers = c.in_ok-numbers.numbers.greatest.items in
    let greatest = c.in_ok-numbers.ensures.greatest in
    let cell : numbered numbers (c.loop-i.i + 1) ≡ Some c.index.result.now =
    cell_at numbers c.loop-i.i c.index.result.now
    (omega (arith, greatest.long, c.step_count-count.ensures.count)) c.index.ensures in
    let Q : Option Reached → Type 0 = λ figures. FiguresAre script (c.loop-i.i + 1) figures in
    let are : Q c.match-index.reached = elim c.match-index.branch [
      | in-None w ↦
          let none : numbered numbers (c.loop-i.i + 1) ≡ Some None = cell ∙ ap (λ x. Some x) w.in-None.is in
          subst Q (sym w.reached-is) (λ m s. unreached script numbers (c.loop-i.i + 1) s.values m greatest sound none s.sends s.of)
      | in-Some w ↦
          let peak =
          subst (λ (k : ℕ). IsGreatestAt script.steps (c.loop-i.i + 1) k)
          (sym w.figures_at.ensures.number)
          (greatest_at script.steps numbers (c.loop-i.i + 1) w.in-Some.number greatest
          (cell ∙ ap (λ (x : Option ℕ). Some x) w.in-Some.is)) in
          let step = numbered_at script.steps (c.loop-i.i + 1) (omega arith) (omega (arith, c.step_count-count.ensures.count)) in
          subst Q (sym w.reached-is)
          (figures_are script nothing sound (c.loop-i.i + 1) step.0 w.figures_at.result step.1
          peak (w.figures_at.ensures.figures step.0 step.1))
    ] in
    one_more (FiguresAre script) c.loop-i.i c.loop-i.figures.items c.push.new.self.items c.match-index.reached
    c.in_ok-push.ensures.items are c.loop-i.invariant

pub returns : goal.returns
returns c =
    let script = c.args.plan.now.script in
    let all : c.loop-i.i ≡ length script.steps = omega (arith, c.loop-i-test.false, c.loop-i.auto.i-end, c.step_count-count.ensures.count) in
    figures_all script c.loop-i.i c.loop-i.figures.items all c.loop-i.invariant
