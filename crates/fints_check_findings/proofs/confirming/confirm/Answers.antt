use Rattle.std.proofs.Common.{List, ℕ, ◌+◌, ◌≤◌, length, sym, subst}
use Rattle.std.specs.List.{All}
use Rattle.fints_script_cases.specs.Answers.{IsAnswer}
use Rattle.std.specs.Prelude.{◌↔◌, IsTrue}
use Rattle.fints_wire.specs.Runs.{EndsWith, Run, at_first, came_after}
use Rattle.fints_check_findings.specs.Confirming.{IsShownBy}
use Rattle.fints_wire.specs.declared.dialogue.Sent.{Sent}
use Rattle.fints_check_findings.proofs.Ending.{confirmed, enough_answers}
use Rattle.fints_wire.proofs.RunLawLemmas.{each_answer_leads_next, one_run_sent}
use Rattle.fints_check_findings.proofs.confirming.confirm.Goals as goal

pub shows-requires-clause-enough : goal.shows-requires-clause-enough
shows-requires-clause-enough c =
    let script = c.args.plan.now.script in
    let values = c.args.case.now.values in
    let sent = c.in_ok-sent.sent.items in
    let run = c.in_ok-sent.ensures.run in
    let enough =
    enough_answers script sent c.as_slice-answers.result.now
    (λ i m n. each_answer_leads_next script values c.as_slice-answers.result.now sent i m n run) in
    subst (λ (xs : List Sent). length xs ≤ length c.as_slice-answers.result.now + 1) (sym c.as_slice-in-Some.ensures.value) enough

pub returns-in-Some-clause-shows : goal.returns-in-Some-clause-shows
returns-in-Some-clause-shows c =
    let script = c.args.plan.now.script in
    let values = c.args.case.now.values in
    let answers = c.args.case.now.answers.items in
    let sent = c.in_ok-sent.sent.items in
    let each = subst (All IsAnswer) c.as_slice-answers.ensures.value (c.have_codes.ensures.answers c.have_codes.ensures.always) in
    let run = subst (λ (xs : List (List ℕ)). Run script values xs sent) c.as_slice-answers.ensures.value c.in_ok-sent.ensures.run in
    let ends = subst (λ (xs : List Sent). EndsWith xs c.in-Some.last.now) c.as_slice.ensures.value c.in-Some.ensures in
    let granted = c.args.permissions.now in
    let f = c.args.finding.now in
    let last = c.in-Some.last.now in
    let told =
    subst
    (λ (xs : List Sent).
    IsTrue c.in_ok-answer-in-Some.answer
    ↔ IsShownBy granted f (came_after at_first xs c.as_slice-answers.result.now) last)
    c.as_slice-in-Some.ensures.value c.in_ok-answer-in-Some.ensures in
    let shown =
    subst
    (λ (xs : List (List ℕ)).
    IsTrue c.in_ok-answer-in-Some.answer ↔ IsShownBy granted f (came_after at_first sent xs) last)
    c.as_slice-answers.ensures.value told in
    confirmed c.args.permissions.now script c.args.finding.now values answers
    (one_run_sent script values answers) sent c.in-Some.last.now c.in_ok-answer-in-Some.answer
    (c.admits.ensures.0 c.if-not-admits.false) each run ends shown

pub returns-in-Some-clause-real : goal.returns-in-Some-clause-real
returns-in-Some-clause-real c t =
    record {
      values = c.args.case.now.values;
      answers = c.args.case.now.answers.items;
      shown = (returns-in-Some-clause-shows c).0 t;
    }
