use Rattle.std.proofs.Common.{codes, map, sym, ◌∙◌}
use Rattle.std.specs.List.{list_any}
use Rattle.std.proofs.lemmas.Result.{err_from_is_err_and}
use Rattle.toml.specs.View.{table_view, view}
use Rattle.fints_syntax_texts.specs.Entries.{is_called}
use Rattle.fints_script_rows.specs.PartLaws.{exact_gives, fault_gives, first_gives, next_gives}
use Rattle.fints_script_rows.specs.Parts.{must}
use Rattle.fints_script_rows.specs.RowNames.{row_name}
use Rattle.fints_script_templates.specs.Signers.{frame_in, signer_value, table_signer}
use Rattle.fints_script_templates.proofs.signers.table_signer.Goals as goal

pub returns-in_err-name : goal.returns-in_err-name
unfolding table_signer
returns-in_err-name c =
    let ms = table_view c.args.table.now in
    let name = row_name (λ name. list_any (is_called name) (map view c.args.earlier.now)) ms in
    let head = must ms (codes "head") (frame_in c.args.fields.now) in
    let end = must ms (codes "end") (frame_in c.args.fields.now) in
    let one = first_gives signer_value (λ n. n) _ name (exact_gives _ name c.signer_name.ensures) in
    let two = next_gives signer_value (λ e. e) _ _ _ _ head one c.frame_at-head.ensures c.both.ensures in
    let three =
    next_gives (λ z. signer_value z.0 z.1) (λ e. e) _ _ _ _ end two c.frame_at-end.ensures c.both-2.ensures in
    let fault = err_from_is_err_and c.from_residual.result c.from_residual.ensures.1 in
    rw (fault.1, fault.2, sym c.only_keys.ensures ∙ c.if-not-only_keys.false)
    (fault_gives (λ z. signer_value z.0.0 z.0.1 z.1) (λ s. s) _ _ _ three c.in_err-name.was)
