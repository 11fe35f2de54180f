use Rattle.std.specs.Prelude.{◌↔◌, IsTrue}
use Rattle.fints_wire.specs.Runs.{at_first, came_after}
use Rattle.fints_check_findings.specs.Confirming.{IsShownBy}
use Rattle.fints_check_findings.specs.Findings.{BreaksBehind}
use Rattle.fints_check_findings.proofs.CaseLemmas.{if_ok}
use Rattle.fints_check_findings.proofs.confirming.shows.Goals as goal

pub returns : goal.returns
returns c =
    let granted = c.args.permissions.now in
    let f = c.args.finding.now in
    let m = c.args.last.now in
    let before = came_after at_first c.args.sent.now c.args.answers.now in
    if_ok (λ answer. IsTrue answer ↔ BreaksBehind granted before m f.rule f.segment)
    (λ answer. IsTrue answer ↔ IsShownBy granted f before m) c.last_breaks.result
    (λ answer e. (λ t. record { of = c.if-last-finding.false; breaks = e.0 t }, λ s. e.1 s.breaks)) c.last_breaks.ensures
