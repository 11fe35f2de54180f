use Rattle.std.proofs.Common.{◌≡◌, List, Option, Some, sym, subst, ◌∙◌}
use Rattle.std.specs.Prelude.{ℕ}
use Rattle.std.proofs.lemmas.Option.{same_Some}
use Rattle.fints_check_reach.specs.Numbers.{Has}
use Rattle.fints_script.specs.Numbered.{numbered_within}
use Rattle.fints_check_findings.specs.Releases.{IsFirstLeft}
use Rattle.fints_check_findings.specs.Findings.{IsReal}
use Rattle.fints_check_findings.specs.Reports.{ReportValue}
use Rattle.fints_check_findings.specs.declared.finding.Finding.{Finding}
use Rattle.fints_rules.specs.declared.rule.Rule.TheVariants.{Release}
use Rattle.fints_check_findings.proofs.Beside.{first_beside, kept_beside}
use Rattle.fints_script.proofs.LawLemmas.{sound_of}
use Rattle.fints_check_findings.proofs.report.Report.step_left.Goals as goal

pub holder_of-requires : goal.holder_of-requires
holder_of-requires c =
    let inside = c.self.inside in
    let f = c.finding-finding.result in
    let real = subst (λ (r : ReportValue). IsReal r.granted r.plan.script f) (sym c.self.view_is) c.finding-finding.ensures.real in
    let has =
    kept_beside inside.permissions.now inside.plan.now.script inside.plan.now.orders
    inside.numbers.greatest.items inside.holders.items f (sound_of c.self.invariant.8) c.self.invariant.0
    c.self.invariant.9 c.self.invariant.4 c.self.invariant.6 c.in-Release.is real in
    (has.0, subst (λ (xs : List (Option ℕ)). Has xs f.step has.0) (sym c.as_slice.ensures.value) has.1)

pub returns-in-Release : goal.returns-in-Release
returns-in-Release c f at =
    let inside = c.self.inside in
    let found = c.finding-finding.result in
    let first =
    first_beside inside.plan.now.script inside.plan.now.orders inside.numbers.greatest.items
    inside.holders.items c.as_slice.result.now found.step c.holder_of.result (sound_of c.self.invariant.8)
    c.self.invariant.9 c.self.invariant.4 c.self.invariant.6 c.as_slice.ensures.value c.holder_of.ensures in
    subst (λ (x : Finding). IsFirstLeft c.args.self.now.plan.script c.holder_of.result x.step)
    (same_Some found f (sym c.finding-finding.ensures.at ∙ at))
    (subst (λ (r : ReportValue). IsFirstLeft r.plan.script c.holder_of.result found.step) c.self.view_is first)

pub returns-in_default : goal.returns-in_default
returns-in_default c f at is =
    c.in_default.not-Release
    (subst (λ (x : Finding). x.rule ≡ Release) (sym (same_Some c.finding-finding.result f (sym c.finding-finding.ensures.at ∙ at))) is)
