use Rattle.std.proofs.Common.{ℕ, List, sym, subst}
use Rattle.std.specs.List.{Contains}
use Rattle.fints_rules_messages.specs.Messages.{MessageView}
use Rattle.fints_rules_messages.specs.Read.{IsJudgeFault}
use Rattle.fints_rules.specs.Breaks.{Breaks}
use Rattle.fints_rules.specs.declared.rule.Broken.{Broken}
use Rattle.fints_rules_messages.proofs.LawLemmas.{one_message, one_stop_not_both}
use Rattle.fints_check_findings.proofs.confirming.bytes_break.Goals as goal

pub returns-in-Ok : goal.returns-in-Ok
returns-in-Ok c =
    let granted = c.args.permissions.now in
    let bytes = c.args.bytes.now in
    let rule = c.args.finding.now.rule in
    let place : ℕ = c.args.finding.now.segment in
    let judged = c.in-Ok.ensures.judged in
    let found : Broken = record { rule = rule; segment = place } in
    let value = c.as_slice.ensures.value in (
      λ t.
          record {
            message =
                judged.message;
            is = judged.is;
            breaks =
                (judged.exactly rule place).0
                (subst (λ (xs : List Broken). Contains xs found) value
                (c.has_finding.ensures.0 t));
          },
      λ b.
          let same = one_message bytes b.message judged.message b.is judged.is in
          let there = (judged.exactly rule place).1 (subst (λ (m : MessageView). Breaks granted m rule place) same b.breaks) in
          c.has_finding.ensures.1 (subst (λ (xs : List Broken). Contains xs found) (sym value) there),
    )

pub returns-in-NotAMessageBefore : goal.returns-in-NotAMessageBefore
returns-in-NotAMessageBefore c = absurd (subst (IsJudgeFault c.args.bytes.now) c.in-NotAMessageBefore.is c.in-Err.ensures.refusal)

pub returns-in-NotAMessage : goal.returns-in-NotAMessage
returns-in-NotAMessage c =
    let stops = subst (IsJudgeFault c.args.bytes.now) c.in-NotAMessage.is c.in-Err.ensures.refusal in
    (λ t. absurd cc, λ b. absurd (one_stop_not_both c.args.bytes.now _ b.message stops b.is))
