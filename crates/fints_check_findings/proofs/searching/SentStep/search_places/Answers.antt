use Rattle.std.proofs.Common.{ℕ, ◌+◌, ◌<◌, ◌≡◌, ◌∷◌, ◌++◌, [], arith, sym, subst, ap, ◌∙◌}
use Rattle.std.specs.Prelude.{Vec}
use Rattle.std.specs.declared.alloc.Global.{Global}
use Rattle.std.proofs.lemmas.Bool.{false≢true}
use Rattle.fints_rules.specs.Rules.{rule_number}
use Rattle.fints_rules.specs.declared.rule.Rule.{Rule}
use Rattle.fints_script.specs.Numbered.{numbered_within}
use Rattle.fints_check_findings.specs.AtStep.{SentStepValue}
use Rattle.fints_check_findings.specs.Findings.{IsReal}
use Rattle.fints_check_findings.specs.Searching.{AreFoundTo}
use Rattle.fints_check_findings.specs.declared.finding.Finding.{Finding}
use Rattle.fints_check_findings.proofs.Founds.{found_push, found_rule, found_skip}
use Rattle.fints_check_findings.proofs.SentSteps.{few_places}
use Rattle.fints_check_findings.proofs.searching.SentStep.search_places.Goals as goal
use Rattle.fints_check_findings.proofs.searching.SentStep.search_places.Goals.{then-is_real+in_ok-push, else-is_real}

pub finding_at-requires-clause-step : goal.finding_at-requires-clause-step
finding_at-requires-clause-step c =
    let s = c.self.inside.at in
    let within = (numbered_within s.script.steps s.n s.step c.place_count-place-end.ensures.kept.at).1 in
    let few = c.place_count-place-end.ensures.kept.sound.few_steps in
    omega (arith, within, few, c.number.ensures)

abbrev finding_of : Rule → ℕ → ℕ → Finding
finding_of r place n = record { step = n; rule = r; segment = place }

pub loop-place-preserved : goal.loop-place-preserved
loop-place-preserved c =
    let s = c.args.self.now.at in
    let r = c.args.rule in
    let place = c.loop-place.place in
    let findings = c.loop-place.findings.items in
    let P : Vec Finding Global → Type 0 = λ v. AreFoundTo s.granted s.script s.n (rule_number r) (place + 1) v.items in
    elim c.if-is_real.branch [
      | then-is_real+in_ok-push w ↦
          let number = w.number.ensures ∙ ap (λ (v : SentStepValue). v.at.n) c.self.view_is in
          let found = w.finding_at.ensures ∙ ap (finding_of r place) number in
          subst P (sym w.findings-is)
          (subst (AreFoundTo s.granted s.script s.n (rule_number r) (place + 1))
          (sym (w.in_ok-push.ensures.items ∙ ap (λ (f : Finding). findings ++ f ∷ []) found))
          (found_push s.granted s.script s.n place r findings (c.is_real.ensures.0 w.if-is_real.true) c.loop-place.invariant))
      | else-is_real w ↦
          subst P (sym w.findings-is)
          (found_skip s.granted s.script s.n place r findings
          (λ real. false≢true (sym w.if-is_real.false ∙ c.is_real.ensures.1 real))
          c.loop-place.invariant)
    ]

pub returns : goal.returns
returns c =
    let s = c.args.self.now.at in
    let inside = c.self.inside in
    let k = c.place_count-place-end.ensures.kept in
    let few = subst (λ (v : SentStepValue). (f : Finding) → f.step ≡ v.at.n → IsReal v.at.granted v.at.script f → f.segment < c.loop-place.place) c.self.view_is
    (λ f here real.
    let low = few_places inside.at inside.figures inside.unreleased c.self.invariant k.at k.sound
    k.sound_step f here real in omega
    (arith, low, c.place_count-place-end.ensures.count, c.loop-place-test.false))
    in
    found_rule s.granted s.script s.n (rule_number c.args.rule) c.loop-place.place c.loop-place.findings.items few c.loop-place.invariant
