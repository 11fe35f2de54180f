use Rattle.std.proofs.Common.{◌≡◌, ap, codes, false, rules, sym, ◌∙◌, []}
use Rattle.std.specs.Prelude.{is_some}
use Rattle.toml.specs.View.{table_view}
use Rattle.fints_script_cases.specs.declared.answers.Target.TheVariants as targets
use Rattle.fints_script_rows.specs.PartLaws.{exact_gives, first_gives, next_gives}
use Rattle.fints_script_rows.specs.Parts.{integer_in, may, must}
use Rattle.fints_script_rows.specs.RowNames.{row_name}
use Rattle.fints_script_rows.specs.declared.limits.TheConstants.{MAX_REPEAT}
use Rattle.fints_script.specs.Around.{surroundings_of}
use Rattle.fints_script.specs.Steps.{branches_in, is_taken_step, sealed_in, segments_in, signatures_in, table_step, step_value, target_in}
use Rattle.fints_script.proofs.step_reading.parts_in.Goals as goal

pub returns : goal.returns
unfolding table_step
returns c =
    let around = surroundings_of c.args.around.now in
    let ms = table_view c.args.table.now in
    let i = c.args.row in
    let name = row_name (is_taken_step around.rows i) ms in
    let segments = must ms (codes "segments") (segments_in around.fields) in
    let sealed = may ms (codes "sealed") false (sealed_in (is_some around.seal)) in
    let signers = may ms (codes "signers") [] (signatures_in around.signers) in
    let repeat = may ms (codes "repeat") 1 (integer_in 1 MAX_REPEAT) in
    let branches = may ms (codes "branches") [] (branches_in around.rows i) in
    let otherwise = may ms (codes "default") targets.Stop (target_in around.rows i) in
    let has_seal : c.is_some.result ≡ is_some around.seal = search rules in
    let is_sealed = c.sealed_at-sealed.ensures ∙ ap (λ b. may ms (codes "sealed") false (sealed_in b)) has_seal in
    let one = first_gives step_value (λ n. n) c.step_name-name.result name (exact_gives _ name c.step_name-name.ensures) in
    let two =
    next_gives step_value (λ v. v.items) _ _ _ _ segments one c.segments_at-segments.ensures c.both.ensures in
    let three =
    next_gives (λ z. step_value z.0 z.1.items) (λ b. b) _ _ _ _ sealed two (exact_gives _ sealed is_sealed)
    c.both-2.ensures in
    let four =
    next_gives (λ z. step_value z.0.0 z.0.1.items z.1) (λ v. v.items) _ _ _ _ signers three
    c.signatures_at-signers.ensures c.both-sent.ensures in
    let five =
    next_gives (λ z. step_value z.0.0.0 z.0.0.1.items z.0.1 z.1.items) (λ n. n) _ _ _ _ repeat four
    (exact_gives _ repeat c.repeat_at.ensures) c.both-3.ensures in
    let six =
    next_gives (λ z. step_value z.0.0.0.0 z.0.0.0.1.items z.0.0.1 z.0.1.items z.1) (λ v. v.items) _ _ _ _
    branches five c.branches_at-branches.ensures c.both-4.ensures in
    rw (sym c.only_step_keys.ensures ∙ c.if-not-only_step_keys.false)
    (next_gives (λ z. step_value z.0.0.0.0.0 z.0.0.0.0.1.items z.0.0.0.1 z.0.0.1.items z.0.1 z.1.items)
    (λ t. t) _ _ _ _ otherwise six (exact_gives _ otherwise c.default_at-otherwise.ensures) c.both-5.ensures)
