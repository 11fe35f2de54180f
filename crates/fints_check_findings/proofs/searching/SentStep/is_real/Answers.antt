use Rattle.std.proofs.Common.{◌≡◌, false, true, sym, subst, ◌∙◌, inl, inr}
use Rattle.std.specs.Prelude.{IsTrue, ◌↔◌}
use Rattle.fints_check_findings.specs.AtStep.{BreaksAsSent, SentStepValue}
use Rattle.fints_check_findings.specs.Findings.{IsReal}
use Rattle.fints_check_findings.proofs.SentSteps.{held_real, real_sent, sent_real}
use Rattle.fints_check_findings.proofs.searching.SentStep.is_real.Goals as goal

pub returns-then-breaks_at_zero : goal.returns-then-breaks_at_zero
returns-then-breaks_at_zero c =
    let s = c.self.inside in
    let k = c.breaks-held.ensures.kept in
    let r = c.args.rule in
    let place = c.args.place in
    let b = subst (λ (v : SentStepValue). (place ≡ 0) × BreaksAsSent v r) (sym c.self.view_is) (c.breaks_at_zero.ensures.0 c.if-breaks_at_zero.true) in
    let real = sent_real s.at s.figures s.unreleased c.self.invariant k.at k.sound k.sound_step r place b.0 b.1 in
    subst
    (λ (v : SentStepValue).
    IsTrue c.breaks_at_zero.result
    ↔ IsReal v.at.granted v.at.script (record { step = v.at.n; rule = r; segment = place }))
    c.self.view_is (λ _. real, λ _. c.if-breaks_at_zero.true)

pub returns-else-breaks_at_zero : goal.returns-else-breaks_at_zero
returns-else-breaks_at_zero c =
    let s = c.self.inside in
    let k = c.breaks-held.ensures.kept in
    let r = c.args.rule in
    let place = c.args.place in
    subst
    (λ (v : SentStepValue).
    IsTrue c.breaks-held.result
    ↔ IsReal v.at.granted v.at.script (record { step = v.at.n; rule = r; segment = place }))
    c.self.view_is (
      λ t. held_real s.at s.figures s.unreleased c.self.invariant k.at k.sound k.sound_step r place (c.breaks-held.ensures.some t),
      λ real. elim (real_sent s.at s.figures s.unreleased c.self.invariant k.at k.sound k.sound_step r place real) [
        | inl whole ↦
            let told = c.breaks_at_zero.ensures.1 (subst (λ (v : SentStepValue). (place ≡ 0) × BreaksAsSent v r) c.self.view_is whole) in
            let no_match : true ≡ false = sym told ∙ c.if-breaks_at_zero.false in
            cc
        | inr held ↦ c.breaks-held.ensures.each held.0 held.1 held.2 held.3
      ],
    )
