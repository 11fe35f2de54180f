use Rattle.std.proofs.Common.{ℕ, ◌<◌, ◌≡◌, List, Some}
use Rattle.std.specs.List.{slice_get}
use Rattle.fints_rules.specs.Rules.{SegmentBreaks}
use Rattle.fints_check_findings.specs.Elements.{template_facts}
use Rattle.fints_check_findings.proofs.choosing.first_account.Given as goal

-- with none so far
abbrev pub invariant-loop-i : goal.invariant-loop-i
invariant-loop-i l =
    (k : ℕ) (account : List (List ℕ)) → k < l.i → slice_get l.accounts k ≡ Some account
    → SegmentBreaks l.permissions l.facts l.rule (template_facts l.template l.count account) → ⊥
