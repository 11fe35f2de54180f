use Rattle.std.proofs.Common.{ℕ, ◌<◌, List}
use Rattle.fints_script_cases.specs.declared.values.NamedValue.{NamedValue}
use Rattle.fints_rules.specs.Breaks.{BreaksByContent}
use Rattle.fints_script.specs.Plans.{Admits}
use Rattle.fints_wire.specs.Views.{message_view}
use Rattle.fints_check_findings.proofs.at_step.AtStep.never_breaks.Given as goal

-- the rule is broken at no place so far
abbrev pub invariant-loop-place : goal.invariant-loop-place
invariant-loop-place l =
    (number : ℕ) (values : List NamedValue) (place : ℕ) → Admits l.self.script.fields values → place < l.place
    → BreaksByContent l.self.granted (message_view l.self.script l.self.step number values) l.rule place
    → ⊥
