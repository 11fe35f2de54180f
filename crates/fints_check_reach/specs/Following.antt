-- Which step an answer with a code may have sent next, and answers that do. Steps count from 1; branches too, and the default counts as the last.
use Rattle.std.specs.Prelude.{ℕ, ◌≡◌, ◌≤◌, Bool, true, Option, Some, List, [], ◌∷◌, ◌++◌, length}
use Rattle.std.specs.List.{Contains}
use Rattle.fints_script_cases.specs.Answers.{IsAnswer, target_of}
use Rattle.fints_script_cases.specs.Carrying.{Carries, IsChosenCarrying}
use Rattle.fints_script_cases.specs.declared.answers.Target.{Target}
use Rattle.fints_script_cases.specs.declared.answers.Target.TheVariants as targets
use Rattle.fints_script.specs.Numbered.{numbered}
use Rattle.fints_script.specs.Steps.{StepValue}
use Rattle.fints_wire.specs.Runs.{Arrives, Follows, RouteTo}
use Rattle.fints_wire.specs.declared.dialogue.Visit.{Visit}
use Rattle.fints_check_reach.specs.Numbers.{Has}
use Rattle.fints_check_reach.specs.Ways.{EntersTo, LeadsTo}

-- after a message of step t this target has one of step s sent next: it is step s, or the same step, if more than one message of it may be sent in a row
abbrev pub GoesTo : StepValue → ℕ → Target → ℕ → Type 0
GoesTo step t (targets.Step to) s = to ≡ s
GoesTo step t targets.Again s = (s ≡ t) × (2 ≤ step.repeat)
GoesTo step t targets.Stop s = ⊥

-- the branch of step t carries the code and goes to step s
pub record IsCarriedTo (step : StepValue) (t branch code s : ℕ) : Type 0 where
  pub carries : Carries step.branches branch code
  pub goes : GoesTo step t (target_of step.branches step.otherwise branch) s

-- some branch of step t does, the default among them
abbrev pub CarriesTo : StepValue → ℕ → ℕ → ℕ → Type 0
CarriesTo step t code s = (branch : ℕ) × IsCarriedTo step t branch code s

-- a message of step t, an answer with the code, and the message of step s that it has sent next
pub record StepsFollow (steps : List StepValue) (t code s : ℕ) (from : Visit) (codes : List ℕ) (to : Visit)
    : Type 0 where
  pub of : from.step ≡ t
  pub answer : IsAnswer codes
  pub has : Contains codes code
  pub follows : Follows steps from codes to
  pub next : to.step ≡ s

-- some run sends a message of step s after one of step t and an answer with the code
pub record IsFollowed (steps : List StepValue) (t code s : ℕ) : Type 0 where
  pub from : Visit
  pub codes : List ℕ
  pub to : Visit
  pub arrives : Arrives steps from
  pub are : StepsFollow steps t code s from codes to

-- the answers, all of them used, lead to a message of step t, and the last of them, which has the code, to one of step s after it
pub record LeadsBehind (steps : List StepValue) (t code s : ℕ) (answers : List (List ℕ)) : Type 0 where
  pub way : List (List ℕ)
  pub from : Visit
  pub codes : List ℕ
  pub to : Visit
  pub route : RouteTo steps way from
  pub are : StepsFollow steps t code s from codes to
  pub answers_are : answers ≡ way ++ codes ∷ []

-- the answers lead to a message of step t, to which one more answer leads to this target: to one that has the step's greatest number; where the target is the same step, to the first of a row that ends with that number
pub record LeadsToward (steps : List StepValue) (numbers : List (Option ℕ)) (t : ℕ) (target : Target)
    (answers : List (List ℕ)) : Type 0 where
  pub again : target ≡ targets.Again → EntersTo steps numbers t answers
  pub other : (target ≡ targets.Again → ⊥) → LeadsTo steps numbers t answers

-- they lead to step s by the first branch of step t that carries the code there, and the last of them is the one that is chosen for that branch
pub record LeadsByFirstBranch (steps : List StepValue) (numbers : List (Option ℕ)) (t code s : ℕ)
    (answers : List (List ℕ)) : Type 0 where
  pub leads : LeadsBehind steps t code s answers
  pub step : StepValue
  pub at : numbered steps t ≡ Some step
  pub branch : ℕ
  pub carried : IsCarriedTo step t branch code s
  pub first : (other : ℕ) → IsCarriedTo step t other code s → branch ≤ other
  pub toward : LeadsToward steps numbers t (target_of step.branches step.otherwise branch) leads.way
  pub chosen : IsChosenCarrying step.branches branch code leads.codes

-- ---- found in the pass

-- step t is marked and has a number, and a branch of it that carries the code goes to step s
pub record IsAsked (steps : List StepValue) (numbers : List (Option ℕ)) (marks : List Bool) (code t s : ℕ)
    : Type 0 where
  pub step : StepValue
  pub at : numbered steps t ≡ Some step
  pub number : ℕ
  pub has : Has numbers t number
  pub marked : numbered marks t ≡ Some true
  pub carries : CarriesTo step t code s

-- each step that such steps go to has the first of them kept for it, and no other step has one
pub record AreBehind (steps : List StepValue) (numbers : List (Option ℕ)) (marks : List Bool) (code : ℕ)
    (behind : List (Option ℕ)) : Type 0 where
  pub long : length behind ≡ length steps
  pub some : (t s : ℕ) → IsAsked steps numbers marks code t s → (u : ℕ) × Has behind s u
  pub each : (t s : ℕ) → Has behind s t → IsAsked steps numbers marks code t s
  pub first : (t s u : ℕ) → Has behind s t → IsAsked steps numbers marks code u s → t ≤ u
