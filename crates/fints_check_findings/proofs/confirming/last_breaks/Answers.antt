use Rattle.std.proofs.Common.{ℕ, ◌-◌, ◌≡◌, List, Some, IfOk, length, get_or, arith, sym, subst, ◌∙◌}
use Rattle.std.specs.Prelude.{◌↔◌, IsTrue}
use Rattle.std.specs.List.{slice_get}
use Rattle.std.proofs.lemmas.Option.{slice_get-get_or}
use Rattle.fints_rules.specs.Breaks.{BytesBreak, BytesBreakAfter}
use Rattle.fints_wire.specs.Runs.{Before}
use Rattle.fints_wire.specs.declared.dialogue.Sent.{Sent}
use Rattle.fints_check_findings.specs.Findings.{BreaksBehind}
use Rattle.fints_check_findings.proofs.Ending.{came_behind, came_first}
use Rattle.fints_check_findings.proofs.confirming.last_breaks.Goals as goal

pub returns-then-sent-lt2 : goal.returns-then-sent-lt2
returns-then-sent-lt2 c =
    let f = c.args.finding.now in
    let m = c.args.last.now in
    subst
    (λ (before : Before).
    IfOk c.bytes_break.result
    (λ answer. IsTrue answer ↔ BreaksBehind c.args.permissions.now before m f.rule f.segment))
    (sym (came_first c.args.sent.now c.args.answers.now c.if-sent-lt2.true))
    (subst
    (λ (bytes : List ℕ).
    IfOk c.bytes_break.result
    (λ answer. IsTrue answer ↔ BytesBreak c.args.permissions.now bytes f.rule f.segment))
    c.as_slice.ensures c.bytes_break.ensures)

pub returns : goal.returns
returns c =
    let granted = c.args.permissions.now in
    let f = c.args.finding.now in
    let m = c.args.last.now in
    let sent = c.args.sent.now in
    let answers = c.args.answers.now in
    let i : ℕ = length sent - 2 in
    let many = c.if-sent-lt2.false in
    let enough = c.requires.enough in
    let b : Sent = get_or sent (length sent - 2) c.index-sent-i.result in
    let codes : List ℕ = get_or answers (length sent - 2) c.index-answers-i.result in
    let there : slice_get sent i ≡ Some b = slice_get-get_or sent i c.index-sent-i.result (omega arith) in
    let answer : slice_get answers i ≡ Some codes = slice_get-get_or answers i c.index-answers-i.result (omega arith) in
    let after = came_behind sent answers i b codes there answer (omega arith) in
    let told : List ℕ → List ℕ → List ℕ → Type 0 =
    λ x y z.
    IfOk c.bytes_break_after.result
    (λ answer. IsTrue answer ↔ BytesBreakAfter granted x y z f.rule f.segment) in
    subst (λ (before : Before). IfOk c.bytes_break_after.result (λ answer. IsTrue answer ↔ BreaksBehind granted before m f.rule f.segment)) (sym after)
    (subst (λ (x : List ℕ). told x codes m.bytes) c.as_slice-2.ensures
    (subst (λ (y : List ℕ). told c.as_slice-2.result.now y m.bytes) (c.codes-codes.ensures.codes ∙ c.index-answers-i.is)
    (subst (told c.as_slice-2.result.now c.codes-codes.result.now) c.as_slice-3.ensures c.bytes_break_after.ensures)))
