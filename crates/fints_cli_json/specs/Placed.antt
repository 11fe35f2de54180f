-- Findings without their reasons: a rule that is broken, and where.
use Rattle.std.specs.Prelude.{◌≡◌, ℕ, ◌+◌, List, [], ◌∷◌, ◌++◌, length, map, Option, None}
use Rattle.fints_rules.specs.declared.rule.Broken.{Broken}
use Rattle.fints_rules_dialogues.specs.declared.auditing.Audited.{Audited}
use Rattle.fints_cli_json.specs.declared.audits.MessageSize.{MessageSize}
use Rattle.fints_cli_json.specs.declared.found.FindingPlace.{FindingPlace}
use Rattle.fints_cli_json.specs.declared.found.FindingPlace.TheVariants.{Message}
use Rattle.fints_cli_json.specs.declared.found.JsonFinding.{JsonFinding}
use Rattle.fints_cli_json.specs.declared.found.PlacedFinding.{PlacedFinding}
use Rattle.fints_script_cases.specs.declared.case.Case.{Case}

abbrev pub here : FindingPlace → Broken → PlacedFinding
here place broken = record { place = place; broken = broken }

-- the rules that the messages of a recorded dialogue break, in order; the first message has this number
abbrev pub placed_in : ℕ → List Audited → List PlacedFinding
placed_in n [] = []
placed_in n (a ∷ more) = map (here (Message n)) a.broken.items ++ placed_in (n + 1) more

-- the messages of a recorded dialogue; the first has this number
abbrev pub sizes_in : ℕ → List Audited → List MessageSize
sizes_in n [] = []
sizes_in n (a ∷ more) = record { message = n; size = length a.sent.bytes.now } ∷ sizes_in (n + 1) more

-- none of the findings has a run
abbrev pub without_case : JsonFinding → Option Case
without_case f = None

abbrev pub AreWithoutCase : List JsonFinding → Type 0
AreWithoutCase founds = map (λ f. f.case) founds ≡ map without_case founds
