-- Which step follows which, and by which branch.
use Rattle.std.proofs.Common.{ℕ, ◌+◌, ◌≤◌, ◌≡◌, Option, Some, List, refl, ap, sym, subst, ◌∙◌, arith}
use Rattle.std.proofs.lemmas.Option.{same_Some}
use Rattle.fints_script_cases.specs.Answers.{target_of}
use Rattle.fints_script_cases.specs.Carrying.{IsCarrying}
use Rattle.fints_script_cases.specs.declared.answers.Target.{Target}
use Rattle.fints_script_cases.specs.declared.answers.Target.TheVariants.{Step, Again, Stop}
use Rattle.fints_script.specs.Numbered.{numbered}
use Rattle.fints_script.specs.Steps.{StepValue}
use Rattle.fints_wire.specs.Runs.{start, answered, Arrives, Enters, Reach, RouteTo}
use Rattle.fints_wire.specs.Runs.Reach.{first, onward}
use Rattle.fints_wire.specs.declared.dialogue.Visit.{Visit}
use Rattle.fints_script_cases.proofs.LawLemmas.{carrying_leads, one_branch_fires}
use Rattle.fints_wire.proofs.RunLawLemmas.{runs_by_steps}
use Rattle.fints_check_reach.specs.Following.{CarriesTo, GoesTo, IsFollowed, LeadsToward, StepsFollow}

-- after a message of step t, the first in a row where the target is the same step, the target has one of step s sent next
goes_on : (step : StepValue) (t s : ℕ) (target : Target) (v : Visit) → v.step ≡ t
    → (target ≡ Again → v.times ≡ 1) → GoesTo step t target s
    → (w : Visit) × Enters step.repeat v target w × (w.step ≡ s)
goes_on step t s (Step to) v here once goes = (record { step = to; number = v.number + 1; times = 1 }, refl, goes)
goes_on step t s Again v here once goes =
    let one = once refl in
    let room = goes.1 in
    (record { step = v.step; number = v.number + 1; times = v.times + 1 }, (omega (arith, one, room), refl), here ∙ sym goes.0)
goes_on step t s Stop v here once goes = absurd goes

-- where it has, it goes there
went : (step : StepValue) (t s : ℕ) (target : Target) (v w : Visit) → v.step ≡ t → w.step ≡ s → 1 ≤ v.times
    → Enters step.repeat v target w → GoesTo step t target s
went step t s (Step to) v w here next some e = sym (ap (λ (x : Visit). x.step) e) ∙ next
went step t s Again v w here next some e = let room = e.0 in (sym next ∙ ap (λ (x : Visit). x.step) e.1 ∙ here, omega (arith, room, some))
went step t s Stop v w here next some e = absurd e

-- a step that runs send has a first message in a row that some run sends
abbrev Begins : List StepValue → Visit → Type 0
Begins steps v = (u : Visit) × Reach steps u × (u.step ≡ v.step) × (u.times ≡ 1)

begins_on : (steps : List StepValue) (v w : Visit) (repeat : ℕ) (target : Target) → Reach steps w
    → Begins steps v → Enters repeat v target w → Begins steps w
begins_on steps v w repeat (Step n) r b e = (w, r, refl, ap (λ (x : Visit). x.times) e)
begins_on steps v w repeat Again r b e = (b.0, b.1, b.2 ∙ sym (ap (λ (x : Visit). x.step) e.1), b.3)
begins_on steps v w repeat Stop r b e = absurd e

begins : (steps : List StepValue) (v : Visit) → Reach steps v → Begins steps v
begins steps _ first = (start, first, refl, refl)
begins steps w (onward {v} codes a r f) = begins_on steps v w f.step.repeat (answered f.step codes) (onward codes a r f) (begins steps v r) f.enters

-- the message that answers lead to, to which another leads to this target
pub toward_visit : (steps : List StepValue) (numbers : List (Option ℕ)) (t : ℕ) (target : Target)
    (answers : List (List ℕ)) → LeadsToward steps numbers t target answers
    → (v : Visit) × RouteTo steps answers v × (v.step ≡ t) × (target ≡ Again → v.times ≡ 1)
toward_visit steps numbers t Again answers l =
    let e = l.again refl in
    (record { step = t; number = e.from; times = 1 }, e.route, refl, λ _. refl)
toward_visit steps numbers t (Step to) answers l =
    let e = l.other (λ (clash : Step to ≡ Again). cc) in
    (record { step = t; number = e.number; times = e.times }, e.route, refl, λ (clash : Step to ≡ Again). cc)
toward_visit steps numbers t Stop answers l =
    let e = l.other (λ (clash : Stop ≡ Again). cc) in
    (record { step = t; number = e.number; times = e.times }, e.route, refl, λ (clash : Stop ≡ Again). cc)

-- an answer that fires a branch to step s after a message of step t has one sent
pub branch_follows : (steps : List StepValue) (t code s branch : ℕ) (step : StepValue) (v : Visit)
    (codes : List ℕ) → numbered steps t ≡ Some step → v.step ≡ t
    → (target_of step.branches step.otherwise branch ≡ Again → v.times ≡ 1)
    → IsCarrying step.branches branch code codes
    → GoesTo step t (target_of step.branches step.otherwise branch) s
    → (w : Visit) × StepsFollow steps t code s v codes w
branch_follows steps t code s branch step v codes at here once c goes =
    let on = goes_on step t s (target_of step.branches step.otherwise branch) v here once goes in
    let there : answered step codes ≡ target_of step.branches step.otherwise branch = carrying_leads step.branches step.otherwise branch code codes c in (
      on.0,
      record {
        of = here;
        answer = c.answer;
        has = c.has;
        follows =
            record {
              step =
                  step;
              at = subst (λ (n : ℕ). numbered steps n ≡ Some step) (sym here) at;
              enters =
                  subst (λ (target : Target). Enters step.repeat v target on.0) (sym there) on.1;
            };
        next = on.2;
      },
    )

module _ (steps : List StepValue) (t code s : ℕ) (step : StepValue) (at : numbered steps t ≡ Some step) where
  pub follow : ((v : Visit) × Arrives steps v × (v.step ≡ t)) × CarriesTo step t code s
      → IsFollowed steps t code s
  follow ((v, arrives, here), (branch, carried)) =
      let u = begins steps v ((runs_by_steps steps v).0 arrives) in
      let (codes, c) = carried.carries in
      let on = branch_follows steps t code s branch step u.0 codes at (u.2 ∙ here) (λ _. u.3) c carried.goes in
      record { from = u.0; codes = codes; to = on.0; arrives = (runs_by_steps steps u.0).1 u.1; are = on.1 }

pub followed : (steps : List StepValue) (t code s : ℕ) (step : StepValue) → numbered steps t ≡ Some step
    → ((v : Visit) → Arrives steps v → 1 ≤ v.times) → IsFollowed steps t code s
    → ((v : Visit) × Arrives steps v × (v.step ≡ t)) × CarriesTo step t code s
followed steps t code s step at some f =
    let own : f.are.follows.step ≡ step =
    same_Some f.are.follows.step step
    (sym (subst (λ (n : ℕ). numbered steps n ≡ Some f.are.follows.step) f.are.of f.are.follows.at)
    ∙ at) in
    let one = one_branch_fires step.branches step.otherwise f.codes in
    let entered : Enters step.repeat f.from (answered step f.codes) f.to =
    subst (λ (x : StepValue). Enters x.repeat f.from (answered x f.codes) f.to) own f.are.follows.enters in
    let there : Enters step.repeat f.from (target_of step.branches step.otherwise one.branch) f.to =
    subst (λ (target : Target). Enters step.repeat f.from target f.to) one.leads_to entered in (
      (f.from, f.arrives, f.are.of),
      (
        one.branch,
        record {
          carries = (f.codes, record { answer = f.are.answer; has = f.are.has; fires = one.fires });
          goes = went step t s (target_of step.branches step.otherwise one.branch) f.from f.to f.are.of f.are.next (some f.from f.arrives) there;
        },
      ),
    )
