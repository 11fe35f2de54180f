use Rattle.std.proofs.Common.{ℕ, ◌<◌, get_or}
use Rattle.fints_rules.specs.declared.rule.Rule.{Rule}
use Rattle.fints_rules.specs.declared.rule.TheConstants.Rule.{ALL}
use Rattle.fints_check_findings.specs.Breakable.{NeverBreaks}
use Rattle.fints_check_findings.proofs.at_step.AtStep.is_clean.Given as goal

-- none of the rules so far is broken
abbrev pub invariant-loop-rule : goal.invariant-loop-rule
invariant-loop-rule l = (k : ℕ) (d : Rule) → k < l.rule-index → NeverBreaks l.self.granted l.self.script l.self.step (get_or ALL k d)
