use Rattle.std.proofs.Common.{ℕ, ◌≡◌, ◌∙◌, true, false, refl, sym, subst, arith, inl, inr}
use Rattle.std.proofs.lemmas.Bool.{cases_lt}
use Rattle.fints_rules.specs.Breaks.{BreaksByContent}
use Rattle.fints_wire.specs.Views.{message_view}
use Rattle.fints_check_findings.proofs.Places.{content_within}
use Rattle.fints_check_findings.proofs.at_step.AtStep.never_breaks.Goals as goal

pub returns-then-breaks : goal.returns-then-breaks
returns-then-breaks c = (
  λ h. let no_match : false ≡ true = h in cc,
  λ never. let can = c.breaks.ensures.some c.if-breaks.true in absurd (never 1 can.values c.loop-place.place can.admitted (can.breaks 1)),
)

pub loop-place-preserved : goal.loop-place-preserved
loop-place-preserved c number values place admits lt b =
    elim (cases_lt place c.loop-place.place) [
      | inl below ↦ c.loop-place.invariant number values place admits below b
      | inr above ↦
          let self = c.args.self.now in
          let same : place ≡ c.loop-place.place = omega (arith, lt, above) in
          let here = subst (λ (p : ℕ). BreaksByContent self.granted (message_view self.script self.step number values) c.args.rule p) same b in
          let yes_breaks = c.breaks.ensures.each number values admits here in
          let no_match : true ≡ false = sym yes_breaks ∙ c.if-breaks.false in
          cc
    ]

pub returns : goal.returns
returns c = (
  λ _ number values place admits b.
      let self = c.args.self.now in
      let within = content_within self.granted self.script self.step number values c.args.rule place b in
      c.loop-place.invariant number values place admits (omega (arith, within, c.place_count-place-end.ensures.count, c.loop-place-test.false)) b,
  λ _. refl,
)
