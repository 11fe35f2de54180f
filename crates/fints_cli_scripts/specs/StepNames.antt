-- The names of a script's steps; steps count from 1. What only private contracts and proofs use comes last, under a heading.
use Rattle.std.specs.Prelude.{◌≤◌, ℕ, List, [], length}
use Rattle.std.specs.Option.{option_map_or}
use Rattle.fints_script.specs.Numbered.{numbered}
use Rattle.fints_script.specs.Steps.{StepValue}
use Rattle.fints_check_findings.specs.declared.finding.Finding.{Finding}
use Rattle.fints_wire.specs.declared.dialogue.Sent.{Sent}

-- the name of step n
abbrev pub step_name : List StepValue → ℕ → List ℕ
step_name steps n = option_map_or (λ step. step.name) (numbered steps n) []

-- ---- of private contracts and proofs only

-- there is a step of this number
abbrev pub HasStep : List StepValue → ℕ → Type 0
HasStep steps n = (1 ≤ n) × (n ≤ length steps)

-- the message is of one of the steps
abbrev pub IsMessageOf : List StepValue → Sent → Type 0
IsMessageOf steps m = HasStep steps m.step

-- the finding is of one of the steps
abbrev pub IsFindingOf : List StepValue → Finding → Type 0
IsFindingOf steps f = HasStep steps f.step
