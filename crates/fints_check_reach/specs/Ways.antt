-- Ways: answers of the bank that lead to a step's greatest number. Steps count from 1.
use Rattle.std.specs.Prelude.{ℕ, ◌≡◌, Option, Some, List}
use Rattle.fints_script.specs.Numbered.{numbered}
use Rattle.fints_script.specs.Steps.{StepValue}
use Rattle.fints_wire.specs.Runs.{RouteTo}
use Rattle.fints_check_reach.specs.Numbers.{Has}
use Rattle.fints_check_reach.specs.Sources.{EndsRow}

-- the run of these answers, each of one code or more and all of them used, ends with a message of step n that has the step's number
pub record LeadsTo (steps : List StepValue) (numbers : List (Option ℕ)) (n : ℕ) (answers : List (List ℕ))
    : Type 0 where
  pub number : ℕ
  pub has : Has numbers n number
  pub times : ℕ
  pub route : RouteTo steps answers (record { step = n; number = number; times = times })

-- the answers lead to the first message of a row of step n that ends with the step's number
pub record EntersTo (steps : List StepValue) (numbers : List (Option ℕ)) (n : ℕ) (answers : List (List ℕ))
    : Type 0 where
  pub step : StepValue
  pub at : numbered steps n ≡ Some step
  pub from : ℕ
  pub number : ℕ
  pub row : EndsRow step from number
  pub has : Has numbers n number
  pub route : RouteTo steps answers (record { step = n; number = from; times = 1 })
