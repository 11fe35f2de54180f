use Rattle.std.proofs.Common.{ℕ, ◌+◌, ◌≡◌, length, arith, sym, subst}
use Rattle.fints_rules.proofs.RuleTable.{number_at}
use Rattle.fints_rules.specs.declared.rule.TheConstants.Rule.{ALL}
use Rattle.fints_check_findings.specs.Searching.{AreFoundTo}
use Rattle.fints_check_findings.proofs.Founds.{found_step}
use Rattle.fints_check_findings.proofs.searching.SentStep.search.Goals as goal

pub search_places-requires : goal.search_places-requires
search_places-requires c =
    let s = c.args.self.now.at in subst
    (λ (r : ℕ). AreFoundTo s.granted s.script s.n r 0 c.loop-rule.findings.items)
    (sym (number_at c.loop-rule.rule-index _ c.loop-rule-test.true)) c.loop-rule.invariant

pub loop-rule-preserved : goal.loop-rule-preserved
loop-rule-preserved c =
    let s = c.args.self.now.at in subst
    (λ (r : ℕ). AreFoundTo s.granted s.script s.n (r + 1) 0 c.search_places.new.findings.items)
    (number_at c.loop-rule.rule-index _ c.loop-rule-test.true) c.in_ok-search_places.ensures

pub returns : goal.returns
returns c =
    let s = c.args.self.now.at in
    let last : c.loop-rule.rule-index + 1 ≡ length ALL + 1 = omega (arith, c.loop-rule-test.false, c.loop-rule.auto.rule-index-end) in
    found_step s.granted s.script s.n c.loop-rule.findings.items
    (subst (λ (r : ℕ). AreFoundTo s.granted s.script s.n r 0 c.loop-rule.findings.items) last
    c.loop-rule.invariant)
