-- What the last message of a run shows. Only private contracts use these words.
use Rattle.std.specs.Prelude.{◌≡◌}
use Rattle.fints_rules_permissions.specs.Permits.{Granted}
use Rattle.fints_wire.specs.Runs.{Before}
use Rattle.fints_wire.specs.declared.dialogue.Sent.{Sent}
use Rattle.fints_check_findings.specs.Findings.{BreaksBehind}
use Rattle.fints_check_findings.specs.declared.finding.Finding.{Finding}

-- the message is of the finding's step, and as bytes breaks its rule at its segment, by itself or given what it comes after
pub record IsShownBy (granted : Granted) (f : Finding) (before : Before) (m : Sent) : Type 0 where
  pub of : m.step ≡ f.step
  pub breaks : BreaksBehind granted before m f.rule f.segment
