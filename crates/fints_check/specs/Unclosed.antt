-- Where what is open of a certificate is found: at the first step with something open. Steps count from 1.
use Rattle.std.specs.Prelude.{ℕ, ◌≡◌, ◌<◌, Some, List}
use Rattle.fints_rules_permissions.specs.Permits.{Granted}
use Rattle.fints_script.specs.Numbered.{numbered}
use Rattle.fints_script.specs.Scripts.{ScriptValue}
use Rattle.fints_script.specs.Steps.{StepValue}
use Rattle.fints_check_findings.specs.declared.finding.Reached.{Reached}
use Rattle.fints_check_findings.specs.Releases.{IsUnreleased}
use Rattle.fints_check.specs.Certificates.{line_names, step_names, IsEntered, LineHolds, Names}
use Rattle.fints_check.specs.declared.certificate.Line.{Line}
use Rattle.fints_check.specs.declared.unclosed.Way.{Way}
use Rattle.fints_check.specs.declared.unclosed.Way.TheVariants.{Begin, Branch}
use Rattle.fints_check.specs.declared.unclosed.Open.{Open}
use Rattle.fints_check.specs.declared.unclosed.Open.TheVariants as opens

-- the step from which a run comes this way; 0 where it begins so
abbrev pub source_of : Way → ℕ
source_of Begin = 0
source_of (Branch from branch number) = from

-- the step that is looked at when it is found; 0 for names, and for where runs begin, which come first
abbrev pub found_at : Open → ℕ
found_at (opens.OtherName step) = 0
found_at (opens.NoLine step) = 0
found_at (opens.NoStep line) = 0
found_at (opens.Unreached step way) = source_of way
found_at (opens.LowNumber step way least number) = source_of way
found_at (opens.BreaksNumber step number) = step
found_at (opens.LowSize step number longest size) = step
found_at (opens.BreaksSize step size) = step
found_at (opens.BreaksRule step) = step
found_at (opens.Unreleased step) = step

-- what is named of a step holds, and no step leaves an order of it unreleased
pub record IsLineClosed
    (granted : Granted) (script : ScriptValue) (lines : List Line) (n : ℕ) (step : StepValue)
    (figures : Reached)
    : Type 0 where
  pub holds : LineHolds granted script lines step figures
  pub released : (s : ℕ) → IsUnreleased script n s → ⊥

-- each step before step n is named as unreached, or nothing of it is open
abbrev pub AreClosedBefore : Granted → ScriptValue → List Line → ℕ → Type 0
AreClosedBefore granted script lines n =
    (k : ℕ) (step : StepValue) (figures : Reached) → k < n → numbered script.steps k ≡ Some step
    → Names lines k figures → IsLineClosed granted script lines k step figures

-- step n is named as reached, and something of it is open
abbrev pub IsOpenStep : Granted → ScriptValue → List Line → ℕ → Type 0
IsOpenStep granted script lines n =
    (step : StepValue) → numbered script.steps n ≡ Some step
    → ((figures : Reached) → Names lines n figures → IsLineClosed granted script lines n step figures) → ⊥

-- step n is the first with something open; or n is 0, and the lines haven't the steps' names, or runs
-- can't begin with step 1 as its line says
pub record IsFirstOpen (granted : Granted) (script : ScriptValue) (lines : List Line) (n : ℕ) : Type 0 where
  pub before : AreClosedBefore granted script lines n
  pub here : IsOpenStep granted script lines n
  pub begin : n ≡ 0 → line_names lines ≡ step_names script.steps → IsEntered script.steps lines 1 1 → ⊥
