use Rattle.std.proofs.Common.{subst}
use Rattle.fints_check_findings.specs.AtStep.{IsOfScript}
use Rattle.fints_check_findings.proofs.at_step.AtStep.place_count.Goals as goal

pub returns-clause-kept : goal.returns-clause-kept
returns-clause-kept c =
    let is = c.self.invariant in
    subst IsOfScript c.self.view_is (record { at = is.at; sound = is.sound; sound_step = is.sound_step })
