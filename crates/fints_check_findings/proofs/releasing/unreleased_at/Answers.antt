use Rattle.std.proofs.Common.{ℕ, ◌↔◌, ◌≡◌, ◌∙◌, ◌-◌, true, false, List, Option, Some, None, ap, arith, get_or, length, sym, subst}
use Rattle.std.proofs.lemmas.Option.{same_Some}
use Rattle.fints_script_cases.specs.Answers.{target_of}
use Rattle.fints_script_cases.specs.Carrying.{Carries}
use Rattle.fints_script_cases.specs.declared.answers.Target.{Target}
use Rattle.fints_check_reach.specs.Following.{GoesTo}
use Rattle.fints_script.specs.Numbered.{numbered}
use Rattle.fints_script.specs.Steps.{StepValue}
use Rattle.fints_check_reach.proofs.Lookups.{numbered_read}
use Rattle.fints_check_findings.specs.Releases.{releases}
use Rattle.fints_check_findings.proofs.Holding.{follower_within, target_once}
use Rattle.fints_script.proofs.LawLemmas.{sound_of}
use Rattle.fints_check_findings.proofs.releasing.unreleased_at.Goals as goal

-- where the branch leads
goes_of : (step : StepValue) (t branch s : ℕ) (target : Target) (next : Option ℕ)
    → target ≡ target_of step.branches step.otherwise branch
    → ((s : ℕ) → GoesTo step t target s ↔ (next ≡ Some s)) → next ≡ Some s
    → GoesTo step t (target_of step.branches step.otherwise branch) s
goes_of step t branch s target next is told here = subst (λ (x : Target). GoesTo step t x s) is ((told s).1 here)

pub returns-in-None : goal.returns-in-None
returns-in-None c s u =
    let next =
    (c.next_step.ensures s).0
    (subst (λ (target : Target). GoesTo c.args.at.step.now c.args.t target s) (sym c.target.ensures)
    u.carried.goes) in
    let both : ◌≡◌ {A = Option ℕ} None (Some s) = sym c.in-None.is ∙ next in
    cc

pub overflow_sub-s : goal.overflow_sub-s
overflow_sub-s c =
    let goes = goes_of c.args.at.step.now c.args.t c.args.at.branch c.in-Some.s c.target.result c.next_step.result
    c.target.ensures c.next_step.ensures c.in-Some.is in
    let within = follower_within c.args.plan.now.script c.args.t c.args.at.branch c.in-Some.s c.args.at.step.now
    (sound_of c.steps-steps.ensures.read) c.requires goes in
    within.0

pub bounds-steps-s : goal.bounds-steps-s
bounds-steps-s c =
    let goes = goes_of c.args.at.step.now c.args.t c.args.at.branch c.in-Some.s c.target.result c.next_step.result
    c.target.ensures c.next_step.ensures c.in-Some.is in
    let within = follower_within c.args.plan.now.script c.args.t c.args.at.branch c.in-Some.s c.args.at.step.now
    (sound_of c.steps-steps.ensures.read) c.requires goes in
    omega (arith, within.0, within.1, ap length c.steps-steps.ensures.steps)

pub offset_bounds-steps-s : goal.offset_bounds-steps-s
offset_bounds-steps-s c =
    let goes = goes_of c.args.at.step.now c.args.t c.args.at.branch c.in-Some.s c.target.result c.next_step.result
    c.target.ensures c.next_step.ensures c.in-Some.is in
    let within = follower_within c.args.plan.now.script c.args.t c.args.at.branch c.in-Some.s c.args.at.step.now
    (sound_of c.steps-steps.ensures.read) c.requires goes in
    omega (arith, within.1, (sound_of c.steps-steps.ensures.read).few_steps)

pub returns-then-releases : goal.returns-then-releases
returns-then-releases c k u =
    let steps = c.args.plan.now.script.steps in
    let step = c.args.at.step.now in
    let goes = goes_of step c.args.t c.args.at.branch c.in-Some.s c.target.result c.next_step.result
    c.target.ensures c.next_step.ensures c.in-Some.is in
    let same = target_once c.args.t c.in-Some.s k step (target_of step.branches step.otherwise c.args.at.branch) goes u.carried.goes in
    let at : numbered steps c.in-Some.s ≡ Some u.to = subst (λ (j : ℕ). numbered steps j ≡ Some u.to) same u.there in
    let within = follower_within c.args.plan.now.script c.args.t c.args.at.branch c.in-Some.s step
    (sound_of c.steps-steps.ensures.read) c.requires goes in
    let read = numbered_read c.args.plan.now.script.steps c.in-Some.s c.index-steps-s.result within.0 within.1
    (subst
    (λ (xs : List StepValue). c.index-steps-s.result ≡ get_or xs (c.in-Some.s - 1) c.index-steps-s.result)
    c.steps-steps.ensures.steps c.index-steps-s.is) in
    let is : u.to ≡ c.index-steps-s.result = same_Some u.to c.index-steps-s.result (sym at ∙ read) in
    let no : releases c.index-steps-s.result ≡ false = subst (λ (x : StepValue). releases x ≡ false) is u.unreleased in
    let clash : true ≡ false = sym c.if-releases.true ∙ (c.releases.ensures ∙ no) in
    cc

pub returns-then-not-carries : goal.returns-then-not-carries
returns-then-not-carries c k u =
    let yes = c.carries.ensures.1 (subst (λ (code : ℕ). Carries c.args.at.step.now.branches c.args.at.branch code) (sym c.release_code.ensures) u.carried.carries) in
    let clash : false ≡ true = sym c.if-not-carries.true ∙ yes in
    cc

pub returns-else-not-carries : goal.returns-else-not-carries
returns-else-not-carries c =
    let goes = goes_of c.args.at.step.now c.args.t c.args.at.branch c.in-Some.s c.target.result c.next_step.result
    c.target.ensures c.next_step.ensures c.in-Some.is in
    let within = follower_within c.args.plan.now.script c.args.t c.args.at.branch c.in-Some.s c.args.at.step.now
    (sound_of c.steps-steps.ensures.read) c.requires goes in
    record {
      carried = record {
        carries = subst (λ (code : ℕ). Carries c.args.at.step.now.branches c.args.at.branch code) c.release_code.ensures (c.carries.ensures.0 c.if-not-carries.false);
        goes = goes;
      };
      to = c.index-steps-s.result;
      there =
          numbered_read c.args.plan.now.script.steps c.in-Some.s c.index-steps-s.result within.0 within.1
          (subst
          (λ (xs : List StepValue). c.index-steps-s.result ≡ get_or xs (c.in-Some.s - 1) c.index-steps-s.result)
          c.steps-steps.ensures.steps c.index-steps-s.is);
      unreleased = sym c.releases.ensures ∙ c.if-releases.false;
    }
