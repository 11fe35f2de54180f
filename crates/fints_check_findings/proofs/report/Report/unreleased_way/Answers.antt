use Rattle.std.proofs.Common.{ℕ, ◌≡◌, List, Option, Some, IfOk, sym, subst, ◌∙◌}
use Rattle.std.proofs.lemmas.Option.{same_Some}
use Rattle.fints_check_reach.specs.Following.{CarriesTo, LeadsByFirstBranch}
use Rattle.fints_check_reach.specs.Numbers.{Has}
use Rattle.fints_script.specs.Numbered.{numbered_within}
use Rattle.fints_script.specs.Steps.{StepValue}
use Rattle.fints_check_findings.specs.Findings.{IsReal}
use Rattle.fints_check_findings.specs.Releases.{LeadsFromFirst}
use Rattle.fints_check_findings.specs.Reports.{ReportValue}
use Rattle.fints_check_findings.proofs.Beside.{first_beside, held_beside, kept_beside}
use Rattle.fints_check_findings.proofs.CaseLemmas.{if_ok}
use Rattle.fints_rules.specs.declared.release.TheConstants.{RELEASE}
use Rattle.fints_script.proofs.LawLemmas.{sound_of}
use Rattle.fints_check_findings.proofs.report.Report.unreleased_way.Goals as goal

pub holder_of-t-requires : goal.holder_of-t-requires
holder_of-t-requires c =
    let inside = c.self.inside in
    let f = c.args.finding in
    let real = subst (λ (r : ReportValue). IsReal r.granted r.plan.script f) (sym c.self.view_is) c.requires.real in
    let has =
    kept_beside inside.permissions.now inside.plan.now.script inside.plan.now.orders
    inside.numbers.greatest.items inside.holders.items f (sound_of c.self.invariant.8) c.self.invariant.0
    c.self.invariant.9 c.self.invariant.4 c.self.invariant.6 c.requires.release real in
    (has.0, subst (λ (xs : List (Option ℕ)). Has xs f.step has.0) (sym c.as_slice.ensures.value) has.1)

pub way_behind-requires-clause-reached : goal.way_behind-requires-clause-reached
way_behind-requires-clause-reached c =
    let inside = c.self.inside in
    (held_beside inside.plan.now.script.steps inside.numbers.greatest.items inside.holders.items
    c.as_slice.result.now c.args.finding.step c.holder_of-t.result c.self.invariant.6 c.as_slice.ensures.value
    c.holder_of-t.ensures).0

pub invariant_of-way : goal.invariant_of-way
invariant_of-way c =
    let inside = c.self.inside in
    let steps = inside.plan.now.script.steps in
    let h =
    (held_beside steps inside.numbers.greatest.items inside.holders.items c.as_slice.result.now
    c.args.finding.step c.holder_of-t.result c.self.invariant.6 c.as_slice.ensures.value
    c.holder_of-t.ensures).1 in
    let within = numbered_within steps c.holder_of-t.result h.step h.at in
    record { from = within.0; to = within.1 }

pub way_behind-requires-clause-carries : goal.way_behind-requires-clause-carries
way_behind-requires-clause-carries c step at =
    let inside = c.self.inside in
    let f = c.args.finding in
    let h =
    (held_beside inside.plan.now.script.steps inside.numbers.greatest.items inside.holders.items
    c.as_slice.result.now f.step c.holder_of-t.result c.self.invariant.6 c.as_slice.ensures.value
    c.holder_of-t.ensures).1 in
    let same : h.step ≡ step = same_Some h.step step (sym h.at ∙ at) in
    subst (λ (code : ℕ). CarriesTo step c.holder_of-t.result code f.step) (sym c.release_code.ensures)
    (subst (λ (x : StepValue). CarriesTo x c.holder_of-t.result RELEASE f.step) same (h.branch, h.is.carried))

pub returns : goal.returns
returns c =
    let inside = c.self.inside in
    let script = inside.plan.now.script in
    let f = c.args.finding in
    let first =
    first_beside script inside.plan.now.orders inside.numbers.greatest.items inside.holders.items
    c.as_slice.result.now f.step c.holder_of-t.result (sound_of c.self.invariant.8) c.self.invariant.9
    c.self.invariant.4 c.self.invariant.6 c.as_slice.ensures.value c.holder_of-t.ensures in
    subst (λ (r : ReportValue). IfOk c.way_behind.result (λ answers. LeadsFromFirst r.plan.script f.step answers.items)) c.self.view_is
    (if_ok
    (λ answers. LeadsByFirstBranch script.steps inside.numbers.greatest.items c.holder_of-t.result
    c.release_code.result f.step answers.items)
    (λ answers. LeadsFromFirst script f.step answers.items) c.way_behind.result
    (λ answers way.
    record {
      before = c.holder_of-t.result;
      first = first;
      numbers = inside.numbers.greatest.items;
      greatest = c.self.invariant.4;
      leads =
          subst
          (λ (code : ℕ). LeadsByFirstBranch script.steps inside.numbers.greatest.items
          c.holder_of-t.result code f.step answers.items)
          c.release_code.ensures way;
    })
    c.way_behind.ensures)
