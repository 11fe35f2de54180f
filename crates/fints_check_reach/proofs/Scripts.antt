-- What the pass needs of a script, and where answers lead in one.
use Rattle.std.proofs.Common.{ℕ, ◌+◌, ◌-◌, ◌<◌, ◌≤◌, ◌≡◌, Some, List, length, ap, sym, subst, ◌∙◌, arith}
use Rattle.std.specs.Prelude.{◌↔◌}
use Rattle.fints_script_cases.specs.Answers.{CanLead, IsOpen, IsOpenTo, matches_some, target_of}
use Rattle.fints_script.specs.Scripts.{ScriptValue}
use Rattle.fints_script.specs.Numbered.{numbered, numbered_holds}
use Rattle.fints_script.specs.Sound.{IsOnward, IsSound, IsSoundStep, LeadsOnward}
use Rattle.fints_script.specs.Steps.{StepValue}
use Rattle.fints_script_cases.specs.declared.answers.Branch.{Branch}
use Rattle.fints_script_cases.specs.declared.answers.Target.{Target}
use Rattle.fints_wire.proofs.Onward.{found_target}
use Rattle.fints_check_reach.specs.Leading.{Leads}
use Rattle.fints_script_rows.specs.declared.limits.TheConstants.{MAX_STEPS}
use Rattle.fints_check_reach.specs.Passes.{IsOpenAt, target_at}

pub record IsStep (count n : ℕ) (step : StepValue) : Type 0 where
  pub onward : LeadsOnward count n step
  pub once : 0 < step.repeat
  pub often : step.repeat < 100

pub record IsScript (steps : List StepValue) : Type 0 where
  pub some : 0 < length steps
  pub few : length steps ≤ MAX_STEPS
  pub each : (n : ℕ) (step : StepValue) → numbered steps n ≡ Some step → IsStep (length steps) n step

pub script_of : (script : ScriptValue) → IsSound script → IsScript script.steps
script_of script sound = record {
  some = omega (arith, sound.some_steps);
  few = sound.few_steps;
  each = λ n step at.
      let s = numbered_holds (IsSoundStep script) script.steps n step sound.steps at in
      record { onward = sound.onward n step at; once = omega (arith, s.once); often = omega (arith, s.often) };
}

pub lead_forward : (steps : List StepValue) (n : ℕ) (step : StepValue) (t : Target) → IsScript steps
    → numbered steps n ≡ Some step → Leads step t → IsOnward (length steps) n t
lead_forward steps n step t script at can =
    let is = (script.each n step at).onward in
    subst (IsOnward (length steps) n) can.leads_to
    (found_target (IsOnward (length steps) n) (matches_some can.codes) step.branches step.otherwise
    is.branches is.otherwise)

-- the law of open branches, with branches from 0 on
pub leads_by_branches :
    ((branches : List Branch) (otherwise target : Target) → CanLead branches otherwise target
    ↔ IsOpenTo branches otherwise target)
    → (step : StepValue) (to : Target) → Leads step to
    ↔ ((b : ℕ) × (b ≤ length step.branches) × IsOpenAt step b × (target_at step b ≡ to))
leads_by_branches law step to = (
  λ can.
      let o = (law step.branches step.otherwise to).0 can in
      let low = o.is_open.fires.from in
      let high = o.is_open.fires.to in
      let back : o.branch ≡ (o.branch - 1) + 1 = omega arith in
      (o.branch - 1, omega arith, subst (IsOpen step.branches) back o.is_open, ap (target_of step.branches step.otherwise) (sym back) ∙ o.to),
  λ way. (law step.branches step.otherwise to).1 (record { branch = way.0 + 1; is_open = way.2; to = way.3 }),
)
