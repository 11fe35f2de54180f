use Rattle.std.proofs.Common.{refl, IfSome, ◌≡◌, string_bytes}
use Rattle.std.proofs.lemmas.Result.{IfErr-weaker, IfOk-weaker}
use Rattle.fints_rules_logs.specs.Kept.{IsLog}
use Rattle.fints_cli_drafts.specs.declared.drafting.Drafted.TheVariants as drafts
use Rattle.fints_cli_commands.specs.Notes.{HasDraft, IsDrafted, IsDraftWithNote}
use Rattle.fints_cli_drawings.specs.Drawn.{IsDrawnOf}
use Rattle.fints_cli_texts.specs.Audit.{IsAuditRefusal}
use Rattle.fints_cli_scripts.specs.RunText.{IsRunRefusal}
use Rattle.fints_cli_scripts.specs.Told.{IsRefused, IsTellRefusal, IsToldOf}
use Rattle.fints_cli_scripts.specs.Verified.{IsUnverified, IsVerifiedOf}
use Rattle.fints_cli_scripts.specs.declared.telling.Wanted.TheVariants as wants
use Rattle.fints_cli_texts.specs.Judge.{IsJudgeRefusal, IsVerdictOf}
use Rattle.fints_cli_texts.specs.JudgeAfter.{IsJudgeAfterRefusal, IsVerdictAfter}
use Rattle.fints_cli_texts.specs.Show.{IsMemoryOrShowFault}
use Rattle.fints_cli_words.specs.declared.requests.Command.TheVariants as commands
use Rattle.fints_cli_commands.specs.Commands.{IfBoth, cases_wanted}
use Rattle.fints_cli_commands.specs.Loaded.{table_text}
use Rattle.fints_cli_commands.specs.Loading.{bytes_at}
use Rattle.fints_cli_commands.proofs.OfRequest as of_request
use Rattle.fints_cli_commands.proofs.Notes.{from_both}
use Rattle.fints_cli_commands.proofs.Reading.{of_file}
use Rattle.fints_cli_commands.proofs.commands.answer.Goals as goal

pub returns-in-Show-clause-refused : goal.returns-in-Show-clause-refused
returns-in-Show-clause-refused c =
    IfErr-weaker c.answer_show.result _ _ (λ refused h holds loaded. rw c.in-Show.is
    (let (bytes, file, read) = of_request.shown c.args.request.now holds _ _ loaded commands.Show c.in-Show.is refl in
    of_file (λ x. IsMemoryOrShowFault x refused.fault) _ _ file (h bytes read)))
    c.answer_show.ensures.refused

pub returns-in-Judge-clause-answers : goal.returns-in-Judge-clause-answers
returns-in-Judge-clause-answers c =
    IfOk-weaker c.answer_judge.result _ _ (λ it h holds loaded. rw c.in-Judge.is
    (of_request.of_message c.args.request.now holds _ _ loaded commands.Judge c.in-Judge.is
    (λ x y z. IsVerdictOf x y z it.reply.status it.reply.text.items)
    refl refl refl h))
    c.answer_judge.ensures.judged

pub returns-in-Judge-clause-refused : goal.returns-in-Judge-clause-refused
returns-in-Judge-clause-refused c =
    IfErr-weaker c.answer_judge.result _ _ (λ refused h holds loaded. rw c.in-Judge.is
    (of_request.of_message c.args.request.now holds _ _ loaded commands.Judge c.in-Judge.is
    (λ x y z. IsJudgeRefusal x y z refused.fault)
    refl refl refl h))
    c.answer_judge.ensures.refused

pub returns-in-JudgeAfter-clause-answers : goal.returns-in-JudgeAfter-clause-answers
returns-in-JudgeAfter-clause-answers c =
    let request = c.args.request.now in
    IfOk-weaker c.answer_judge_after.result _ _ (λ it h holds loaded. rw c.in-JudgeAfter.is
    (let before = of_request.before request holds _ _ loaded commands.JudgeAfter c.in-JudgeAfter.is refl in
    let answer = of_request.answer request holds _ _ loaded commands.JudgeAfter c.in-JudgeAfter.is refl in
    of_request.of_message request holds _ _ loaded commands.JudgeAfter c.in-JudgeAfter.is
    (λ x y z. IfBoth (bytes_at holds request.paths.before) (bytes_at holds request.paths.answer)
    (λ b a. IsVerdictAfter x y b a z it.reply.status it.reply.text.items))
    refl refl refl (λ bytes read. of_request.of_both
    (λ b a. IsVerdictAfter bytes (table_text c.args.contents.now.orders) b a c.args.contents.now.message.items it.reply.status it.reply.text.items)
    _ _ _ _ before answer (h bytes read))))
    c.answer_judge_after.ensures.judged

pub returns-in-JudgeAfter-clause-refused : goal.returns-in-JudgeAfter-clause-refused
returns-in-JudgeAfter-clause-refused c =
    let request = c.args.request.now in
    IfErr-weaker c.answer_judge_after.result _ _ (λ refused h holds loaded. rw c.in-JudgeAfter.is
    (let before = of_request.before request holds _ _ loaded commands.JudgeAfter c.in-JudgeAfter.is refl in
    let answer = of_request.answer request holds _ _ loaded commands.JudgeAfter c.in-JudgeAfter.is refl in
    of_request.of_message request holds _ _ loaded commands.JudgeAfter c.in-JudgeAfter.is
    (λ x y z. IfBoth (bytes_at holds request.paths.before) (bytes_at holds request.paths.answer)
    (λ b a. IsJudgeAfterRefusal x y b a z refused.fault))
    refl refl refl (λ bytes read. of_request.of_both
    (λ b a. IsJudgeAfterRefusal bytes (table_text c.args.contents.now.orders) b a c.args.contents.now.message.items refused.fault)
    _ _ _ _ before answer (h bytes read))))
    c.answer_judge_after.ensures.refused

pub returns-in-Audit-clause-refused : goal.returns-in-Audit-clause-refused
returns-in-Audit-clause-refused c =
    IfErr-weaker c.answer_audit.result _ _ (λ refused h holds loaded. rw c.in-Audit.is
    (of_request.of_dialogue c.args.request.now holds _ _ loaded commands.Audit c.in-Audit.is
    (λ x y z. IsAuditRefusal x y z refused.fault)
    refl refl refl h))
    c.answer_audit.ensures.refused

pub returns-in-Check-clause-answers : goal.returns-in-Check-clause-answers
returns-in-Check-clause-answers c =
    IfOk-weaker c.answer_check.result _ _ (λ it h holds loaded. rw c.in-Check.is
    (of_request.of_script c.args.request.now holds _ _ loaded commands.Check c.in-Check.is
    (λ x y z. IsToldOf wants.Report x y z it.reply.status it.reply.text.items)
    refl refl refl h))
    c.answer_check.ensures.told

pub returns-in-Check-clause-refused : goal.returns-in-Check-clause-refused
returns-in-Check-clause-refused c =
    IfErr-weaker c.answer_check.result _ _ (λ refused h holds loaded. rw c.in-Check.is
    (of_request.of_script c.args.request.now holds _ _ loaded commands.Check c.in-Check.is
    (λ x y z. IsTellRefusal wants.Report x y z refused.fault)
    refl refl refl h))
    c.answer_check.ensures.refused

pub returns-in-Certify-clause-answers : goal.returns-in-Certify-clause-answers
returns-in-Certify-clause-answers c =
    IfOk-weaker c.answer_check-in-Certify.result _ _ (λ it h holds loaded. rw c.in-Certify.is
    (of_request.of_script c.args.request.now holds _ _ loaded commands.Certify c.in-Certify.is
    (λ x y z. IsToldOf wants.Certificate x y z it.reply.status it.reply.text.items)
    refl refl refl h))
    c.answer_check-in-Certify.ensures.told

pub returns-in-Certify-clause-refused : goal.returns-in-Certify-clause-refused
returns-in-Certify-clause-refused c =
    IfErr-weaker c.answer_check-in-Certify.result _ _ (λ refused h holds loaded. rw c.in-Certify.is
    (of_request.of_script c.args.request.now holds _ _ loaded commands.Certify c.in-Certify.is
    (λ x y z. IsTellRefusal wants.Certificate x y z refused.fault)
    refl refl refl h))
    c.answer_check-in-Certify.ensures.refused

pub returns-in-Explain-clause-answers : goal.returns-in-Explain-clause-answers
returns-in-Explain-clause-answers c =
    IfOk-weaker c.answer_check-in-Explain.result _ _ (λ it h holds loaded. rw c.in-Explain.is
    (of_request.of_script c.args.request.now holds _ _ loaded commands.Explain c.in-Explain.is
    (λ x y z. IsToldOf (cases_wanted c.args.request.now.number) x y z it.reply.status it.reply.text.items)
    refl refl refl (rw c.cases_wanted.ensures at h)))
    c.answer_check-in-Explain.ensures.told

pub returns-in-Explain-clause-refused : goal.returns-in-Explain-clause-refused
returns-in-Explain-clause-refused c =
    IfErr-weaker c.answer_check-in-Explain.result _ _ (λ refused h holds loaded. rw c.in-Explain.is
    (of_request.of_script c.args.request.now holds _ _ loaded commands.Explain c.in-Explain.is
    (λ x y z. IsTellRefusal (cases_wanted c.args.request.now.number) x y z refused.fault)
    refl refl refl (rw c.cases_wanted.ensures at h)))
    c.answer_check-in-Explain.ensures.refused

pub returns-in-Verify-clause-answers : goal.returns-in-Verify-clause-answers
returns-in-Verify-clause-answers c =
    let request = c.args.request.now in
    IfOk-weaker c.answer_verify.result _ _ (λ it h holds loaded. rw c.in-Verify.is
    (let lines = of_request.certificate request holds _ _ loaded commands.Verify c.in-Verify.is refl in
    of_request.of_script request holds _ _ loaded commands.Verify c.in-Verify.is
    (λ x y z. IfSome (bytes_at holds request.paths.certificate) (λ t. IsVerifiedOf x y z t it.reply.status it.reply.text.items))
    refl refl refl (λ bytes read. of_file
    (λ t. IsVerifiedOf bytes (table_text c.args.contents.now.orders) c.args.contents.now.script.items t it.reply.status it.reply.text.items)
    _ _ lines (h bytes read))))
    c.answer_verify.ensures.told

pub returns-in-Verify-clause-refused : goal.returns-in-Verify-clause-refused
returns-in-Verify-clause-refused c =
    let request = c.args.request.now in
    IfErr-weaker c.answer_verify.result _ _ (λ refused h holds loaded. rw c.in-Verify.is
    (let lines = of_request.certificate request holds _ _ loaded commands.Verify c.in-Verify.is refl in
    of_request.of_script request holds _ _ loaded commands.Verify c.in-Verify.is
    (λ x y z. IfSome (bytes_at holds request.paths.certificate) (λ t. IsUnverified x y z t refused.fault))
    refl refl refl (λ bytes read. of_file
    (λ t. IsUnverified bytes (table_text c.args.contents.now.orders) c.args.contents.now.script.items t refused.fault)
    _ _ lines (h bytes read))))
    c.answer_verify.ensures.refused

pub returns-in-Run-clause-refused : goal.returns-in-Run-clause-refused
returns-in-Run-clause-refused c =
    let request = c.args.request.now in
    IfErr-weaker c.answer_run.result _ _ (λ refused h holds loaded. rw c.in-Run.is
    (of_request.of_case request holds _ _ loaded commands.Run c.in-Run.is
    (λ x y z. IsRunRefusal x y z request.number refused.fault) refl refl refl h))
    c.answer_run.ensures.refused

pub returns-in-DrawFound-clause-answers : goal.returns-in-DrawFound-clause-answers
returns-in-DrawFound-clause-answers c =
    IfOk-weaker c.answer_draw.result _ _ (λ it h holds loaded. rw c.in-DrawFound.is
    (of_request.of_script c.args.request.now holds _ _ loaded commands.DrawFound c.in-DrawFound.is
    (λ x y z. IsDrawnOf x y z it.reply.status it.reply.text.items)
    refl refl refl h))
    c.answer_draw.ensures.drawn

pub returns-in-DrawFound-clause-refused : goal.returns-in-DrawFound-clause-refused
returns-in-DrawFound-clause-refused c =
    IfErr-weaker c.answer_draw.result _ _ (λ refused h holds loaded. rw c.in-DrawFound.is
    (of_request.of_script c.args.request.now holds _ _ loaded commands.DrawFound c.in-DrawFound.is
    (λ x y z. IsRefused x y z refused.fault)
    refl refl refl h))
    c.answer_draw.ensures.refused

pub returns-in-Show-clause-note : goal.returns-in-Show-clause-note
returns-in-Show-clause-note c =
    IfOk-weaker c.answer_show.result _ _ (λ it h holds loaded. rw c.in-Show.is h) c.answer_show.ensures.note

pub returns-in-ShowMessage-clause-note : goal.returns-in-ShowMessage-clause-note
returns-in-ShowMessage-clause-note c =
    IfOk-weaker c.answer_show_message.result _ _ (λ it h holds loaded. rw c.in-ShowMessage.is h) c.answer_show_message.ensures.note

pub returns-in-Judge-clause-note : goal.returns-in-Judge-clause-note
returns-in-Judge-clause-note c =
    IfOk-weaker c.answer_judge.result _ _ (λ it h holds loaded. rw c.in-Judge.is h) c.answer_judge.ensures.note

pub returns-in-JudgeAfter-clause-note : goal.returns-in-JudgeAfter-clause-note
returns-in-JudgeAfter-clause-note c =
    IfOk-weaker c.answer_judge_after.result _ _ (λ it h holds loaded. rw c.in-JudgeAfter.is h) c.answer_judge_after.ensures.note

pub returns-in-Check-clause-note : goal.returns-in-Check-clause-note
returns-in-Check-clause-note c =
    IfOk-weaker c.answer_check.result _ _ (λ it h holds loaded. rw c.in-Check.is h) c.answer_check.ensures.note

pub returns-in-Explain-clause-note : goal.returns-in-Explain-clause-note
returns-in-Explain-clause-note c =
    IfOk-weaker c.answer_check-in-Explain.result _ _ (λ it h holds loaded. rw c.in-Explain.is h) c.answer_check-in-Explain.ensures.note

pub returns-in-Certify-clause-note : goal.returns-in-Certify-clause-note
returns-in-Certify-clause-note c =
    IfOk-weaker c.answer_check-in-Certify.result _ _ (λ it h holds loaded. rw c.in-Certify.is h) c.answer_check-in-Certify.ensures.note

pub returns-in-Verify-clause-note : goal.returns-in-Verify-clause-note
returns-in-Verify-clause-note c =
    IfOk-weaker c.answer_verify.result _ _ (λ it h holds loaded. rw c.in-Verify.is h) c.answer_verify.ensures.note

pub returns-in-Run-clause-note : goal.returns-in-Run-clause-note
returns-in-Run-clause-note c =
    IfOk-weaker c.answer_run.result _ _ (λ it h holds loaded. rw c.in-Run.is h) c.answer_run.ensures.note

pub returns-in-Draw-clause-note : goal.returns-in-Draw-clause-note
returns-in-Draw-clause-note c =
    IfOk-weaker c.answer_draw_script.result _ _ (λ it h holds loaded. rw c.in-Draw.is h) c.answer_draw_script.ensures.note

pub returns-in-DrawFound-clause-note : goal.returns-in-DrawFound-clause-note
returns-in-DrawFound-clause-note c =
    IfOk-weaker c.answer_draw.result _ _ (λ it h holds loaded. rw c.in-DrawFound.is h) c.answer_draw.ensures.note

pub returns-in-Audit-clause-note : goal.returns-in-Audit-clause-note
returns-in-Audit-clause-note c =
    IfOk-weaker c.answer_audit.result _ _ (λ it h holds loaded. rw c.in-Audit.is
    (let file = of_request.dialogue c.args.request.now holds _ _ loaded commands.Audit c.in-Audit.is refl in
    (h.0, of_file (λ d. IsLog d h.0) _ _ file h.1, h.2)))
    c.answer_audit.ensures.note

pub returns-in-AuditOwn-clause-note : goal.returns-in-AuditOwn-clause-note
returns-in-AuditOwn-clause-note c =
    IfOk-weaker c.answer_audit_own.result _ _ (λ it h holds loaded. rw c.in-AuditOwn.is
    (let file = of_request.dialogue c.args.request.now holds _ _ loaded commands.AuditOwn c.in-AuditOwn.is refl in
    (h.0, of_file (λ d. IsLog d h.0) _ _ file h.1, h.2)))
    c.answer_audit_own.ensures.note

pub returns-in-Record-clause-note : goal.returns-in-Record-clause-note
returns-in-Record-clause-note c =
    IfOk-weaker c.answer_record.result _ _ (λ it h holds loaded. rw c.in-Record.is
    (let file = of_request.dialogue c.args.request.now holds _ _ loaded commands.Record c.in-Record.is refl in
    (h.0, of_file (λ d. IsLog d h.0) _ _ file h.1, h.2)))
    c.answer_record.ensures.note

pub returns-in-Draft-clause-note : goal.returns-in-Draft-clause-note
returns-in-Draft-clause-note c =
    IfOk-weaker c.answer_draft.result _ _ (λ it h holds loaded. rw c.in-Draft.is
    (let file = of_request.dialogue c.args.request.now holds _ _ loaded commands.Draft c.in-Draft.is refl in (
      h.secret,
      (h.log, of_file (λ d. IsLog d h.log) _ _ file h.log_is, h.note_is),
      of_request.of_own_dialogue c.args.request.now holds _ _ loaded commands.Draft c.in-Draft.is
          (λ table d. HasDraft drafts.Script c.args.request.now.number table d h.secret) refl refl
          (it.reply.text.items, h.draft),
    )))
    c.answer_draft.ensures.drafted

pub returns-in-Draft-clause-answers : goal.returns-in-Draft-clause-answers
returns-in-Draft-clause-answers c =
    from_both c.answer_draft.result (λ it. it.reply.status ≡ 0)
    (λ it. IsDraftWithNote c.args.request.now.hints drafts.Script c.args.request.now.number
    (table_text c.args.contents.now.orders) c.args.contents.now.dialogue.items it.reply.text.items (string_bytes it.note))
    _ (λ it zero h holds loaded. rw c.in-Draft.is (
      zero,
      of_request.of_own_dialogue c.args.request.now holds _ _ loaded commands.Draft c.in-Draft.is
          (λ table d. IsDrafted drafts.Script c.args.request.now.number table d it.reply.text.items) refl refl
          (h.secret, h.draft),
    ))
    c.answer_draft.ensures.status c.answer_draft.ensures.drafted

pub returns-in-DraftCase-clause-note : goal.returns-in-DraftCase-clause-note
returns-in-DraftCase-clause-note c =
    IfOk-weaker c.answer_draft-in-DraftCase.result _ _ (λ it h holds loaded. rw c.in-DraftCase.is
    (let file = of_request.dialogue c.args.request.now holds _ _ loaded commands.DraftCase c.in-DraftCase.is refl in (
      h.secret,
      (h.log, of_file (λ d. IsLog d h.log) _ _ file h.log_is, h.note_is),
      of_request.of_own_dialogue c.args.request.now holds _ _ loaded commands.DraftCase c.in-DraftCase.is
          (λ table d. HasDraft drafts.Case c.args.request.now.number table d h.secret) refl refl
          (it.reply.text.items, h.draft),
    )))
    c.answer_draft-in-DraftCase.ensures.drafted

pub returns-in-DraftCase-clause-answers : goal.returns-in-DraftCase-clause-answers
returns-in-DraftCase-clause-answers c =
    from_both c.answer_draft-in-DraftCase.result (λ it. it.reply.status ≡ 0)
    (λ it. IsDraftWithNote c.args.request.now.hints drafts.Case c.args.request.now.number
    (table_text c.args.contents.now.orders) c.args.contents.now.dialogue.items it.reply.text.items (string_bytes it.note))
    _ (λ it zero h holds loaded. rw c.in-DraftCase.is (
      zero,
      of_request.of_own_dialogue c.args.request.now holds _ _ loaded commands.DraftCase c.in-DraftCase.is
          (λ table d. IsDrafted drafts.Case c.args.request.now.number table d it.reply.text.items) refl refl
          (h.secret, h.draft),
    ))
    c.answer_draft-in-DraftCase.ensures.status c.answer_draft-in-DraftCase.ensures.drafted
