use Rattle.std.proofs.Common.{◌+◌}
use Rattle.fints_check_findings.specs.Searching.{AreFoundTo}
use Rattle.fints_check_findings.proofs.searching.SentStep.search.Given as goal

-- the rules so far were looked at
abbrev pub invariant-loop-rule : goal.invariant-loop-rule
invariant-loop-rule l = AreFoundTo l.self.at.granted l.self.at.script l.self.at.n (l.rule-index + 1) 0 l.findings.items
