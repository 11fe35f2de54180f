use Rattle.std.proofs.Common.{ℕ, List, [], ◌∷◌, ◌++◌, refl, ap, ◌∙◌}
use Rattle.fints_script_fields.specs.Listed.{account_text}
use Rattle.fints_cli_drafts_accounts.specs.Walks.{asked_of}
use Rattle.fints_cli_drafts_accounts.proofs.StepLemmas.{starts}
use Rattle.fints_cli_drafts_accounts.proofs.listing.Walk.new.Goals as goal

pub returns-clause-holds : goal.returns-clause-holds
returns-clause-holds c =
    let value = c.in_ok-value.ensures ∙ c.in_ok-copies_of.ensures in
    starts (asked_of c.args.order.now) (record { values = c.push.new.self; left_out = 0; further = 0 })
    c.new-seen.result c.insert.new.self c.in_ok-text_of.field-0
    (c.in_ok-text_of.ensures ∙ ap (λ (l : List (List ℕ)). account_text l) value)
    c.new-seen.ensures.empty c.in_ok-insert.ensures.updates.0
    (c.in_ok-push.ensures.items ∙ ap (λ (l : List (List (List ℕ))). l ++ c.in_ok-value.value ∷ []) c.new-listed.ensures.items
    ∙ ap (λ (x : List (List ℕ)). x ∷ []) value)
    refl refl
