use Rattle.std.proofs.Common.{[], refl, ap, sym, subst, ◌∙◌, inl, inr}
use Rattle.std.proofs.lemmas.List.{append-nil}
use Rattle.std.specs.Prelude.{codes}
use Rattle.fints_cli_files.specs.Streams.{Gets, GetsPrefix, one_more}
use Rattle.fints_cli.specs.Responses.{line_of}
use Rattle.fints_cli.proofs.Faults.{told_first}
use Rattle.fints_cli.proofs.Writes.{gets-more, gets-then-cut, none_is_no_some, on_err_of, on_ok_both, on_err_both}
use Rattle.fints_cli.proofs.responding.emit_refusal.Goals as goal

pub returns-in_err-emit_line-clause-cut : goal.returns-in_err-emit_line-clause-cut
returns-in_err-emit_line-clause-cut g c =
    let why = c.as_bytes.result.now in
    on_err_of c.from_residual.result _
    (told_first _ _ _ _ _ c.args.refusal.now.failure why [] (c.as_bytes.ensures ∙ c.text.ensures.text) (λ _. refl)
    (inr (
      subst (GetsPrefix _ _) (sym (append-nil (line_of (codes "error: ") why))) c.in_err-emit_line.ensures.cut,
      c.in_err-emit_line.ensures.failed,
    )))

pub returns-in-Some-clause-told : goal.returns-in-Some-clause-told
returns-in-Some-clause-told g c =
    let why = c.as_bytes.result.now in
    let more = line_of (codes "hint: ") c.as_bytes-in-Some.result.now in
    on_ok_both c.emit_line-in-Some.result _ _ _
    (λ written fine. told_first _ _ _ _ _ c.args.refusal.now.failure why more (c.as_bytes.ensures ∙ c.text.ensures.text)
    (λ none. absurd (none_is_no_some _ (sym none ∙ c.in-Some.is)))
    (inl (
      gets-more _ _ _ (line_of (codes "error: ") why) more c.in_ok-emit_line.ensures.written written,
      fine ∙ c.in_ok-emit_line.ensures.fine,
    ))) c.emit_line-in-Some.ensures.written c.emit_line-in-Some.ensures.fine

pub returns-in-Some-clause-cut : goal.returns-in-Some-clause-cut
returns-in-Some-clause-cut g c =
    let why = c.as_bytes.result.now in
    let more = line_of (codes "hint: ") c.as_bytes-in-Some.result.now in
    on_err_both c.emit_line-in-Some.result _ _ _
    (λ cut failed. told_first _ _ _ _ _ c.args.refusal.now.failure why more (c.as_bytes.ensures ∙ c.text.ensures.text)
    (λ none. absurd (none_is_no_some _ (sym none ∙ c.in-Some.is)))
    (inr (
      gets-then-cut _ _ _ (line_of (codes "error: ") why) more c.in_ok-emit_line.ensures.written cut,
      failed ∙ ap one_more c.in_ok-emit_line.ensures.fine,
    ))) c.emit_line-in-Some.ensures.cut c.emit_line-in-Some.ensures.failed

pub returns-in-None-clause-told : goal.returns-in-None-clause-told
returns-in-None-clause-told g c =
    let why = c.as_bytes.result.now in
    told_first _ _ _ _ _ c.args.refusal.now.failure why [] (c.as_bytes.ensures ∙ c.text.ensures.text) (λ _. refl)
    (inl (
      subst (Gets _ _) (sym (append-nil (line_of (codes "error: ") why))) c.in_ok-emit_line.ensures.written,
      c.in_ok-emit_line.ensures.fine,
    ))
