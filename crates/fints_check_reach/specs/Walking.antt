-- What is found on the way to a step, back and forth. Only private contracts use these words.
use Rattle.std.specs.Prelude.{ℕ, ◌≡◌, ◌<◌, ◌≤◌, ◌+◌, Option, List, [], ◌∷◌, length}
use Rattle.fints_script_cases.specs.declared.answers.Target.{Target}
use Rattle.fints_script.specs.Steps.{StepValue}
use Rattle.fints_wire.specs.Runs.{RouteTo, answered}
use Rattle.fints_check_reach.specs.Numbers.{Has}
use Rattle.fints_check_reach.specs.Sources.{AreSources}
use Rattle.fints_check_reach.specs.Ways.{EntersTo, LeadsTo}

-- an answer with only the code leads from the step to this target
pub record IsCodeTo (step : StepValue) (to : Target) (code : ℕ) : Type 0 where
  pub small : code < 10000
  pub leads_there : answered step (code ∷ []) ≡ to

-- where the old answers lead to the first message of such a row, the new ones lead to its last
abbrev pub EndsTheRow : List StepValue → ℕ → List (List ℕ) → List (List ℕ) → Type 0
EndsTheRow steps n old new =
    (numbers : List (Option ℕ)) → EntersTo steps numbers n old → LeadsTo steps numbers n new

-- where the old answers lead to a message of step n, the new ones lead to one of step `to` after it, the first in a row
abbrev pub LeadsOn : List StepValue → ℕ → ℕ → List (List ℕ) → List (List ℕ) → Type 0
LeadsOn steps n to old new =
    (number times : ℕ) → RouteTo steps old (record { step = n; number = number; times = times })
    → RouteTo steps new (record { step = to; number = number + 1; times = 1 })

-- these are the sources of numbers, and step n has a number
pub record HasWay (sources : List (Option ℕ)) (n : ℕ) : Type 0 where
  pub steps : List StepValue
  pub numbers : List (Option ℕ)
  pub are : AreSources steps numbers sources
  pub number : ℕ
  pub has : Has numbers n number
  pub to : n ≤ length steps

-- step n, its source, that one's source and so on, as long as they come after step c; the last of them comes from step c
abbrev pub IsWayBack : List (Option ℕ) → ℕ → List ℕ → ℕ → Type 0
IsWayBack sources n [] c = n ≡ c
IsWayBack sources n (x ∷ xs) c = (n ≡ x) × ((s : ℕ) × Has sources n s × IsWayBack sources s xs c)
