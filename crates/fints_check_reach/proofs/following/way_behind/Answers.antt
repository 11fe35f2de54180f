use Rattle.std.proofs.Common.{ℕ, ◌≡◌, ◌<◌, ◌≤◌, Option, arith, inl, inr, subst}
use Rattle.std.specs.Prelude.{IfSome}
use Rattle.std.proofs.lemmas.Option.{MatchOption-at_some}
use Rattle.std.proofs.lemmas.Bool.{cases_lt}
use Rattle.fints_script_cases.specs.Answers.{target_of}
use Rattle.fints_script_cases.specs.declared.answers.Target.{Target}
use Rattle.fints_check_reach.specs.Following.{CarriesTo, IsCarriedTo, LeadsToward}
use Rattle.fints_check_reach.proofs.Followed.{branch_follows, toward_visit}
use Rattle.fints_check_reach.proofs.following.way_behind.Goals as goal

pub returns : goal.returns
returns c =
    let steps = c.args.way.plan.now.script.steps in
    let numbers = c.args.way.numbers.now.greatest.items in
    let step = c.step-step.result.now in
    let branch = c.unwrap-branch.result in
    let carried =
    MatchOption-at_some (CarriesTo step c.args.way.n c.args.code c.args.s → ⊥)
    (λ b. IsCarriedTo step c.args.way.n b c.args.code c.args.s) branch c.unwrap-branch.ensures
    c.branch_to.ensures.carried in
    let first =
    subst
    (λ (o : Option ℕ).
    IfSome o
    (λ b. (other : ℕ) → 1 ≤ other → other < b → IsCarriedTo step c.args.way.n other c.args.code c.args.s → ⊥))
    c.unwrap-branch.ensures c.branch_to.ensures.first in
    let target : c.target.result ≡ target_of step.branches step.otherwise branch = c.target.ensures in
    let toward =
    subst (λ (x : Target). LeadsToward steps numbers c.args.way.n x c.in_ok-answers.answers.items) target
    c.in_ok-answers.ensures in
    let way =
    toward_visit steps numbers c.args.way.n (target_of step.branches step.otherwise branch)
    c.in_ok-answers.answers.items toward in
    let on =
    branch_follows steps c.args.way.n c.args.code c.args.s branch step way.0
    c.in_ok-carrying.field-0 c.step-step.ensures.numbered way.2 way.3
    c.in_ok-carrying.ensures.carries carried.goes in
    record {
      leads = record {
        way = c.in_ok-answers.answers.items;
        from = way.0;
        codes = c.in_ok-carrying.field-0;
        to = on.0;
        route = way.1;
        are = on.1;
        answers_are = c.in_ok-push.ensures.items;
      };
      step = step;
      at = c.step-step.ensures.numbered;
      branch = branch;
      carried = carried;
      first = λ other is.
          elim (cases_lt other branch) [
            | inl less ↦ absurd (first other is.carries.1.fires.from less is)
            | inr more ↦ omega (arith, more)
          ];
      toward = toward;
      chosen = c.in_ok-carrying.ensures;
    }
