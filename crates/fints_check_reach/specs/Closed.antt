-- Closed numbers: a table of numbers of steps, of any origin, that no answer leads out of. Whoever has one
-- needs no run to know that none exceeds it. Words only for laws and private contracts come last, under a heading.
use Rattle.std.specs.Prelude.{ℕ, ◌≡◌, ◌≤◌, ◌+◌, ◌-◌, Option, Some, List, length}
use Rattle.fints_script_cases.specs.declared.answers.Target.TheVariants.{Step, Again}
use Rattle.fints_script.specs.Numbered.{numbered}
use Rattle.fints_script.specs.Steps.{StepValue}
use Rattle.fints_check_reach.specs.Leading.{Leads}
use Rattle.fints_check_reach.specs.Numbers.{Has}

-- a number that is enough for all messages in a row of a step, where the first has at most number `from`
pub record IsEnough (step : StepValue) (from number : ℕ) : Type 0 where
  pub once : from ≤ number
  pub often : Leads step Again → from + (step.repeat - 1) ≤ number

-- ---- of laws and private contracts only

-- step 1 has a number that is enough from 1 on; and where some answer leads from a step with a number to a
-- later one, that has a number too, which is enough from one more on
pub record AreClosed (steps : List StepValue) (numbers : List (Option ℕ)) : Type 0 where
  pub long : length numbers ≡ length steps
  pub first : (step : StepValue) → numbered steps 1 ≡ Some step
      → (f : ℕ) × Has numbers 1 f × IsEnough step 1 f
  pub onward : (n to f : ℕ) (step next : StepValue) → numbered steps n ≡ Some step
      → numbered steps to ≡ Some next → Has numbers n f → Leads step (Step to)
      → (g : ℕ) × Has numbers to g × IsEnough next (f + 1) g
