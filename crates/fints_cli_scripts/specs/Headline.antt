-- The headline: what is found of a script, by what a bank published.
use Rattle.std.specs.Prelude.{◌≡◌, ◌↔◌, ℕ, List, [], AllPairs, Contains}
use Rattle.std.specs.List.{AllZip}
use Rattle.fints_script_cases.specs.declared.values.NamedValue.{NamedValue}
use Rattle.fints_check_findings.specs.Findings.{EachIsPermitted, IsBefore, IsReal, Shows}
use Rattle.fints_check_findings.specs.declared.finding.Finding.{Finding}
use Rattle.fints_rules_permissions.specs.Permits.{Granted}
use Rattle.fints_script.specs.Scripts.{ScriptValue}

-- values of the script's fields and answers of the bank
pub record CaseValue : Type 0 where
  pub values : List NamedValue
  pub answers : List (List ℕ)

-- each finding has a case: its values are admitted, and with them the run of its answers ends with
-- a message of the finding's step that, as bytes, breaks the finding's rule at its segment
abbrev pub AreCases : Granted → ScriptValue → List Finding → List CaseValue → Type 0
AreCases granted script findings cases =
    AllZip (λ f c. Shows granted script f c.values c.answers) findings cases

-- the findings are exactly the triples of step, rule and segment that some run breaks, for some admitted
-- values and some answers, in order and each once; each has a case that is such a run; and without findings
-- each message of each run, for all admitted values and all answers, is permitted
pub record Headline (granted : Granted) (script : ScriptValue) (findings : List Finding)
    (cases : List CaseValue) : Type 0 where
  pub exactly : (f : Finding) → Contains findings f ↔ IsReal granted script f
  pub in_order : AllPairs IsBefore findings
  pub each : AreCases granted script findings cases
  pub clean : findings ≡ [] → EachIsPermitted granted script
