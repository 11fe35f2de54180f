use Rattle.fints_rules.specs.Rules.{rule_number}
use Rattle.fints_check_findings.specs.Searching.{AreFoundTo}
use Rattle.fints_check_findings.proofs.searching.SentStep.search_places.Given as goal

-- the places so far were looked at
abbrev pub invariant-loop-place : goal.invariant-loop-place
invariant-loop-place l = AreFoundTo l.self.at.granted l.self.at.script l.self.at.n (rule_number l.rule) l.place l.findings.items
