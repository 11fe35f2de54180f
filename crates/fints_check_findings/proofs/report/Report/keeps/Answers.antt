use Rattle.std.proofs.Common.{◌≡◌, [], subst}
use Rattle.fints_check_findings.specs.Figures.{AreFigures}
use Rattle.fints_check_findings.specs.Findings.{EachIsPermitted, SentStepsAreClean, SentStepsAreReleased}
use Rattle.fints_check_findings.specs.Reports.{ReportValue}
use Rattle.fints_check_findings.proofs.Checking.{clean_permits}
use Rattle.fints_check_findings.proofs.Kept.{kept_clean, kept_released}
use Rattle.fints_script.proofs.LawLemmas.{sound_of}
use Rattle.fints_check_findings.proofs.report.Report.keeps.Goals as goal

pub returns-clause-clean : goal.returns-clause-clean
returns-clause-clean c =
    let inside = c.self.inside in
    subst (λ (r : ReportValue). r.findings ≡ [] → SentStepsAreClean r.granted r.plan.script) c.self.view_is
    (kept_clean inside.permissions.now inside.plan.now.script inside.plan.now.orders inside.findings.items
    c.self.invariant.0 c.self.invariant.1 c.self.invariant.8 c.self.invariant.9)

pub returns-clause-released : goal.returns-clause-released
returns-clause-released c =
    let inside = c.self.inside in
    subst (λ (r : ReportValue). r.findings ≡ [] → SentStepsAreReleased r.plan.script) c.self.view_is
    (kept_released inside.permissions.now inside.plan.now.script inside.plan.now.orders inside.findings.items
    c.self.invariant.0 c.self.invariant.1 c.self.invariant.8 c.self.invariant.9)

pub returns-clause-permitted : goal.returns-clause-permitted
returns-clause-permitted c =
    let inside = c.self.inside in
    subst (λ (r : ReportValue). r.findings ≡ [] → EachIsPermitted r.granted r.plan.script) c.self.view_is
    (clean_permits inside.permissions.now inside.plan.now.script inside.findings.items (sound_of c.self.invariant.8) c.self.invariant.1.exactly)

pub returns-clause-figures : goal.returns-clause-figures
returns-clause-figures c = subst (λ (r : ReportValue). AreFigures r.plan.script r.figures) c.self.view_is c.self.invariant.2
