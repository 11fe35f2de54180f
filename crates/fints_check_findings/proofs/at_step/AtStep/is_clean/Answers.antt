use Rattle.std.proofs.Common.{◌≡◌, ◌<◌, length, true, false, refl, arith, inl, inr}
use Rattle.std.proofs.lemmas.Bool.{cases_lt}
use Rattle.fints_rules.proofs.RuleTable.{each_rule, rule_same}
use Rattle.fints_rules.specs.declared.rule.Rule.TheVariants as rule
use Rattle.fints_rules.specs.declared.rule.TheConstants.Rule.{ALL}
use Rattle.fints_check_findings.specs.Breakable.{NeverBreaks}
use Rattle.fints_check_findings.proofs.at_step.AtStep.is_clean.Goals as goal

pub returns-then-not-never_breaks : goal.returns-then-not-never_breaks
returns-then-not-never_breaks c = (
  λ h. let no_match : false ≡ true = h in cc,
  λ clean. let never = c.never_breaks.ensures.1 (clean _) in absurd cc,
)

pub loop-rule-preserved : goal.loop-rule-preserved
loop-rule-preserved c k d lt =
    elim (cases_lt k c.loop-rule.rule-index) [
      | inl below ↦ c.loop-rule.invariant k d below
      | inr above ↦
          let self = c.args.self.now in
          let here : c.loop-rule.rule-index ≡ k = omega (arith, lt, above) in
          let within : k < length ALL = omega (arith, here, c.loop-rule-test.true) in
          rule_same (NeverBreaks self.granted self.script self.step) c.loop-rule.rule-index k rule.Protocol d here within (c.never_breaks.ensures.0 cc)
    ]

pub returns : goal.returns
returns c =
    let self = c.args.self.now in (
      λ _. each_rule (NeverBreaks self.granted self.script self.step) (λ k d lt. c.loop-rule.invariant k d (omega (arith, lt, c.loop-rule-test.false))),
      λ _. refl,
    )
