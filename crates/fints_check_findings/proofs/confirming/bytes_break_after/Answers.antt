use Rattle.std.proofs.Common.{ℕ, List, sym, subst}
use Rattle.std.specs.List.{Contains}
use Rattle.fints_rules.specs.declared.rule.Broken.{Broken}
use Rattle.fints_check_findings.proofs.confirming.bytes_break_after.Goals as goal

pub returns-in-Ok : goal.returns-in-Ok
returns-in-Ok c =
    let rule = c.args.finding.now.rule in
    let place : ℕ = c.args.finding.now.segment in
    let judged = c.in-Ok.ensures.judged in
    let found : Broken = record { rule = rule; segment = place } in
    let value = c.as_slice.ensures.value in (
      λ t. (judged.exactly rule place).0 (subst (λ (xs : List Broken). Contains xs found) value (c.has_finding.ensures.0 t)),
      λ b. c.has_finding.ensures.1 (subst (λ (xs : List Broken). Contains xs found) (sym value) ((judged.exactly rule place).1 b)),
    )
