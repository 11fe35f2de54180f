-- Where the greatest numbers of steps come from. Steps count from 1.
use Rattle.std.specs.Prelude.{ℕ, ◌≡◌, ◌<◌, ◌+◌, ◌-◌, Option, Some, List, length}
use Rattle.fints_script_cases.specs.declared.answers.Target.TheVariants.{Step, Again}
use Rattle.fints_script.specs.Numbered.{numbered}
use Rattle.fints_script.specs.Steps.{StepValue}
use Rattle.fints_check_reach.specs.Leading.{Leads}
use Rattle.fints_check_reach.specs.Numbers.{Has}

-- of a row of messages of the step that begins with number `from`, and is as long as answers allow, the last has this number
pub record EndsRow (step : StepValue) (from number : ℕ) : Type 0 where
  pub repeated : Leads step Again → number ≡ from + (step.repeat - 1)
  pub single : (Leads step Again → ⊥) → number ≡ from

-- step n's greatest number comes from step s, which comes before it: some answer leads from s to n, and the
-- row that begins with one more than s's greatest number ends with n's
pub record ComesFrom (steps : List StepValue) (numbers : List (Option ℕ)) (n s : ℕ) : Type 0 where
  pub before : s < n
  pub step : StepValue
  pub at : numbered steps s ≡ Some step
  pub number : ℕ
  pub has : Has numbers s number
  pub leads_here : Leads step (Step n)
  pub next : StepValue
  pub there : numbered steps n ≡ Some next
  pub greatest : ℕ
  pub is : Has numbers n greatest
  pub row : EndsRow next (number + 1) greatest

-- each step after the first that has a number has the source that is kept for it, and no other step has one; the row of step 1 begins with number 1
pub record AreSources (steps : List StepValue) (numbers sources : List (Option ℕ)) : Type 0 where
  pub long : length sources ≡ length steps
  pub first : (step : StepValue) (number : ℕ) → numbered steps 1 ≡ Some step → Has numbers 1 number
      → EndsRow step 1 number
  pub some : (n number : ℕ) → 1 < n → Has numbers n number → (s : ℕ) × Has sources n s
  pub each : (n s : ℕ) → Has sources n s → ComesFrom steps numbers n s
