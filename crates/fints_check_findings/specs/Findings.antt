-- Which findings are real, and when every message of every run is permitted.
use Rattle.std.specs.Prelude.{ℕ, ◌≡◌, ◌<◌, ◌⊎◌, ◌↔◌, List, Some, AllPairs, Contains}
use Rattle.std.specs.List.{AllByRecursion}
use Rattle.fints_rules.specs.Breaks.{BytesBreak, BytesBreakAfter, Permitted, PermittedAfter}
use Rattle.fints_rules.specs.Rules.{rule_number}
use Rattle.fints_rules_permissions.specs.Permits.{Granted}
use Rattle.fints_rules.specs.declared.rule.Rule.{Rule}
use Rattle.fints_script_cases.specs.Answers.{IsAnswer}
use Rattle.fints_script_cases.specs.declared.values.NamedValue.{NamedValue}
use Rattle.fints_script.specs.Numbered.{numbered}
use Rattle.fints_script.specs.Plans.{Admits}
use Rattle.fints_script.specs.Scripts.{ScriptValue}
use Rattle.fints_script.specs.Steps.{StepValue}
use Rattle.fints_wire.specs.Runs.{Before, EachAfter, EndsIn, Run, at_first, behind, came_after}
use Rattle.fints_wire.specs.declared.dialogue.Sent.{Sent}
use Rattle.fints_check_findings.specs.Breakable.{IsCleanStep}
use Rattle.fints_check_findings.specs.Figures.{IsSentOf}
use Rattle.fints_check_findings.specs.Releases.{IsUnreleased}
use Rattle.fints_check_findings.specs.declared.finding.Finding.{Finding}

-- as bytes, the message breaks the rule at the place, by itself or given what it comes after
abbrev pub BreaksBehind : Granted → Before → Sent → Rule → ℕ → Type 0
BreaksBehind granted at_first m r place = BytesBreak granted m.bytes r place
BreaksBehind granted (behind b codes) m r place = BytesBreakAfter granted b.bytes codes m.bytes r place

-- it is permitted there
abbrev pub IsPermittedBehind : Granted → Before → Sent → Type 0
IsPermittedBehind granted at_first m = Permitted granted m.bytes
IsPermittedBehind granted (behind b codes) m = PermittedAfter granted b.bytes codes m.bytes

-- the values are admitted, and with them the run of these answers ends with a message of the finding's step
-- that, as bytes, breaks the finding's rule at its segment, by itself or given the message before it and the
-- answer between them
pub record Shows (granted : Granted) (script : ScriptValue) (f : Finding) (values : List NamedValue)
    (answers : List (List ℕ)) : Type 0 where
  pub admitted : Admits script.fields values
  pub message : Sent
  pub ends : EndsIn script values answers message
  pub of : message.step ≡ f.step
  pub breaks : BreaksBehind granted (came_after at_first ends.sent answers) message f.rule f.segment

-- some values and some answers of the bank show it
pub record IsReal (granted : Granted) (script : ScriptValue) (f : Finding) : Type 0 where
  pub values : List NamedValue
  pub answers : List (List ℕ)
  pub shown : Shows granted script f values answers

-- by step, then by rule, then by segment
abbrev pub IsBefore : Finding → Finding → Type 0
IsBefore f g =
    (f.step < g.step)
    ⊎ ((f.step ≡ g.step)
    × ((rule_number f.rule < rule_number g.rule) ⊎ ((f.rule ≡ g.rule) × (f.segment < g.segment))))

-- exactly the real findings, in order, each once
pub record AreFindings (granted : Granted) (script : ScriptValue) (findings : List Finding) : Type 0 where
  pub exactly : (f : Finding) → Contains findings f ↔ IsReal granted script f
  pub in_order : AllPairs IsBefore findings

-- each message of each run, for all admitted values and all answers, is permitted, by itself and given the message before it and the answer between them
abbrev pub EachIsPermitted : Granted → ScriptValue → Type 0
EachIsPermitted granted script =
    (values : List NamedValue) (answers : List (List ℕ)) (sent : List Sent) → Admits script.fields values
    → AllByRecursion IsAnswer answers → Run script values answers sent
    → EachAfter (IsPermittedBehind granted) at_first sent answers

-- where some run sends a message of a step, what the step's messages hold breaks no rule, at any number
abbrev pub SentStepsAreClean : Granted → ScriptValue → Type 0
SentStepsAreClean granted script =
    (n : ℕ) (step : StepValue) (m : Sent) → numbered script.steps n ≡ Some step → IsSentOf script n m
    → IsCleanStep granted script step

-- where some run sends a message of a step, no step leaves an order unreleased that this step submits
abbrev pub SentStepsAreReleased : ScriptValue → Type 0
SentStepsAreReleased script = (t s : ℕ) (m : Sent) → IsSentOf script t m → IsUnreleased script t s → ⊥
