-- What `verify` knows on its way. Only private contracts use these words.
use Rattle.std.specs.Prelude.{ℕ, ◌≡◌, ◌↔◌, ◌≤◌, Bool, true, Option, Some, List, length, IfSome, IsNone}
use Rattle.fints_script_cases.specs.Answers.{IsOpenTo}
use Rattle.fints_script_cases.specs.declared.answers.Target.TheVariants as targets
use Rattle.fints_rules.specs.Rules.{FiguresBreak}
use Rattle.fints_rules.specs.declared.rule.Rule.{Rule}
use Rattle.fints_rules_permissions.specs.Permits.{Granted}
use Rattle.fints_script.specs.Numbered.{numbered}
use Rattle.fints_script.specs.Scripts.{ScriptValue}
use Rattle.fints_script.specs.Steps.{StepValue}
use Rattle.fints_check_reach.specs.Closed.{IsEnough}
use Rattle.fints_check_findings.specs.Figures.{reached_figures}
use Rattle.fints_check_findings.specs.declared.finding.Reached.{Reached}
use Rattle.fints_check.specs.Certificates.{worst_len, BranchGoesOn, IsEntered, Names}
use Rattle.fints_check.specs.Unclosed.{found_at, IsLineClosed}
use Rattle.fints_check.specs.declared.certificate.Line.{Line}
use Rattle.fints_check.specs.declared.unclosed.Open.{Open}

-- the flag of a step says whether an open branch leads back to it
pub record AreRepeats (steps : List StepValue) (repeats : List Bool) : Type 0 where
  pub long : length steps ≤ length repeats
  pub each : (n : ℕ) (step : StepValue) → numbered steps n ≡ Some step
      → (numbered repeats n ≡ Some true) ↔ IsOpenTo step.branches step.otherwise targets.Again

-- the permissions, the script, and what a certificate names of its steps
pub record ClaimsValue : Type 0 where
  pub granted : Granted
  pub script : ScriptValue
  pub lines : List Line

-- the least number that is enough for step n where its first message in a row has at most number `from`
abbrev pub IsLeast : ClaimsValue → ℕ → ℕ → ℕ → Type 0
IsLeast c n from least =
    (step : StepValue) → numbered c.script.steps n ≡ Some step
    → (number : ℕ) → (least ≤ number) ↔ IsEnough step from number

-- none is found exactly where each open branch of step n goes on after messages of at most this number
abbrev pub TellsOnward : ClaimsValue → ℕ → ℕ → Option Open → Type 0
TellsOnward c n number found =
    (step : StepValue) → numbered c.script.steps n ≡ Some step
    → (IsNone found ↔ ((branch : ℕ) → BranchGoesOn c.script.steps c.lines number step branch))

-- the figures break neither P2 nor P3, and the size is enough for the step
pub record AreFiguresClosed (c : ClaimsValue) (step : StepValue) (figures : Reached) : Type 0 where
  pub permitted : (r : Rule) → FiguresBreak c.granted.rows.bank (reached_figures figures) r → ⊥
  pub size : worst_len c.script step figures.number ≤ figures.size

-- none is found exactly where these figures are closed for step n
abbrev pub TellsFigures : ClaimsValue → ℕ → Reached → Option Open → Type 0
TellsFigures c n figures found =
    (step : StepValue) → numbered c.script.steps n ≡ Some step
    → (IsNone found ↔ AreFiguresClosed c step figures)

-- none is found exactly where step n is closed with these figures
abbrev pub TellsLine : ClaimsValue → ℕ → Reached → Option Open → Type 0
TellsLine c n figures found =
    (step : StepValue) → numbered c.script.steps n ≡ Some step
    → (IsNone found ↔ IsLineClosed c.granted c.script c.lines n step figures)

-- step n is named as unreached, or closed with its figures
abbrev pub IsStepClosed : ClaimsValue → ℕ → StepValue → Type 0
IsStepClosed c n step =
    (figures : Reached) → Names c.lines n figures → IsLineClosed c.granted c.script c.lines n step figures

-- none is found exactly where step n is named as unreached, or closed
abbrev pub TellsStep : ClaimsValue → ℕ → Option Open → Type 0
TellsStep c n found =
    (step : StepValue) → numbered c.script.steps n ≡ Some step → (IsNone found ↔ IsStepClosed c n step)

-- each step is named as unreached, or closed
abbrev pub AreStepsClosed : ClaimsValue → Type 0
AreStepsClosed c = (n : ℕ) (step : StepValue) → numbered c.script.steps n ≡ Some step → IsStepClosed c n step

-- step 1 is reached, with a number that is enough, and each step is named as unreached, or closed
pub record AreClaimsClosed (c : ClaimsValue) : Type 0 where
  pub first : IsEntered c.script.steps c.lines 1 1
  pub each : AreStepsClosed c

-- what is found is found at step n
abbrev pub IsFoundAt : ℕ → Option Open → Type 0
IsFoundAt n found = IfSome found (λ o. found_at o ≡ n)
