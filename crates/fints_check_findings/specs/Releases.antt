-- Which steps leave an order unreleased that another step submits. Steps count from 1; branches too, and the
-- default counts as the last. Words only for private contracts, proofs and the invariant of Report come
-- last, under a heading.
use Rattle.std.specs.Prelude.{codes, ◌≡◌, ◌||◌, ℕ, ◌≤◌, Bool, true, false, List, length, Option, Some}
use Rattle.std.specs.List.{list_any}
use Rattle.fints_script_cases.specs.declared.values.NamedValue.{NamedValue}
use Rattle.fints_check_reach.specs.Following.{CarriesTo, IsCarriedTo, LeadsByFirstBranch}
use Rattle.fints_check_reach.specs.Numbers.{AreGreatest, Has}
use Rattle.fints_rules.specs.Facts.{facts_alone}
use Rattle.fints_rules.specs.Rules.{LeavesOrder}
use Rattle.fints_script.specs.Numbered.{numbered}
use Rattle.fints_script.specs.Plans.{Admits}
use Rattle.fints_script.specs.Scripts.{ScriptValue}
use Rattle.fints_script.specs.Steps.{StepValue}
use Rattle.fints_wire.specs.Runs.{Arrives}
use Rattle.fints_wire.specs.Views.{message_view}
use Rattle.fints_wire.specs.declared.dialogue.Visit.{Visit}
use Rattle.fints_check_findings.specs.Elements.{has_process}
use Rattle.fints_rules.specs.declared.release.TheConstants.{RELEASE}
use Rattle.fints_check_findings.specs.Kinds.{is_end}

-- some admitted values make a message of the first step submit an order, and one of the second neither send its TAN nor end the dialogue
pub record StepLeavesOrder (script : ScriptValue) (from to : StepValue) : Type 0 where
  pub values : List NamedValue
  pub admitted : Admits script.fields values
  pub number : ℕ
  pub other : ℕ
  pub leaves : LeavesOrder (facts_alone (message_view script from number values))
      (facts_alone (message_view script to other values))

-- a branch of step t carries 0030 to step s, which leaves an order of step t unreleased
pub record IsUnreleased (script : ScriptValue) (t s : ℕ) : Type 0 where
  pub from : StepValue
  pub at : numbered script.steps t ≡ Some from
  pub to : StepValue
  pub there : numbered script.steps s ≡ Some to
  pub follows : CarriesTo from t RELEASE s
  pub leaves : StepLeavesOrder script from to

-- of the steps that some run sends, step t is the first with an order that step s leaves unreleased
pub record IsFirstLeft (script : ScriptValue) (t s : ℕ) : Type 0 where
  pub unreleased : IsUnreleased script t s
  pub visit : Visit
  pub arrives : Arrives script.steps visit
  pub of : visit.step ≡ t
  pub first : (v : Visit) → Arrives script.steps v → IsUnreleased script v.step s → t ≤ v.step

-- the answers lead to a message of step s after one of that first step, by the first branch that carries 0030 there; the numbers are the greatest of all steps
pub record LeadsFromFirst (script : ScriptValue) (s : ℕ) (answers : List (List ℕ)) : Type 0 where
  pub before : ℕ
  pub first : IsFirstLeft script before s
  pub numbers : List (Option ℕ)
  pub greatest : AreGreatest script.steps numbers
  pub leads : LeadsByFirstBranch script.steps numbers before RELEASE s answers

-- ---- of private contracts, proofs and the invariant of Report only

-- an HKTAN of process 4 is among the step's templates
abbrev pub submits : StepValue → Bool
submits step = list_any (has_process (codes "4")) step.templates

-- an HKTAN of process 2, or an HKEND, is
abbrev pub releases : StepValue → Bool
releases step = list_any (has_process (codes "2")) step.templates || list_any is_end step.templates

-- the branch of step t carries 0030 to step s, which releases nothing
pub record IsUnreleasedAt (steps : List StepValue) (t : ℕ) (step : StepValue) (branch s : ℕ) : Type 0 where
  pub carried : IsCarriedTo step t branch RELEASE s
  pub to : StepValue
  pub there : numbered steps s ≡ Some to
  pub unreleased : releases to ≡ false

-- step t submits an order, and a branch of it is so
pub record IsHeld (steps : List StepValue) (t s : ℕ) : Type 0 where
  pub step : StepValue
  pub at : numbered steps t ≡ Some step
  pub submitted : submits step ≡ true
  pub branch : ℕ
  pub is : IsUnreleasedAt steps t step branch s

-- the mark of each of the first steps is whether it submits an order
pub record AreSubmittingTo (steps : List StepValue) (count : ℕ) (marks : List Bool) : Type 0 where
  pub long : length marks ≡ count
  pub each : (t : ℕ) (step : StepValue) → t ≤ count → numbered steps t ≡ Some step
      → numbered marks t ≡ Some (submits step)

-- for each step, the first step that has a number and an order that it leaves unreleased, if there is one
pub record AreHolders (steps : List StepValue) (numbers holders : List (Option ℕ)) : Type 0 where
  pub long : length holders ≡ length steps
  pub each : (s t : ℕ) → Has holders s t → ((number : ℕ) × Has numbers t number) × IsHeld steps t s
  pub all : (s t number : ℕ) → Has numbers t number → IsHeld steps t s → (u : ℕ) × Has holders s u
  pub first : (s t u number : ℕ) → Has holders s t → Has numbers u number → IsHeld steps u s → t ≤ u
