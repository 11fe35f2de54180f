use Rattle.std.proofs.Common.{ℕ, List, Some, sym, subst, ◌∙◌}
use Rattle.std.specs.List.{All}
use Rattle.fints_cli_drafts_accounts.specs.Accounts.{Asked, IsListable, MayHave}
use Rattle.fints_cli_drafts_accounts.specs.Recorded.{RecordedIs}
use Rattle.fints_cli_drafts_accounts.proofs.ListLemmas.{asked_with, each_may, listed_count, listed_once, same_asked}
use Rattle.fints_cli_drafts_accounts.proofs.listing.accounts_for.Goals as goal

pub returns-then-has_accounts-clause-each : goal.returns-then-has_accounts-clause-each
returns-then-has_accounts-clause-each c =
    let granted = c.args.permissions.now in
    let s = c.args.segment.now in
    let recorded : RecordedIs s (Some c.in-Some-2.recorded) = rw c.in-Some-2.is at c.in_ok-recorded_items.ensures in
    let values = c.as_slice.ensures.value ∙ recorded.1 in
    let same = same_asked granted s c.args.signatures c.in-Some.form c.as_slice.result.now c.in-Some.ensures.0 values in
    let listable = subst (λ (l : List (List ℕ)). All IsListable l) (sym values) recorded.0.listable in
    subst (λ (a : Asked). All (MayHave a) c.in_ok-list_of.field-0.values.items) same
    (each_may (asked_with granted s c.args.signatures c.in-Some.form c.as_slice.result.now) c.in_ok-list_of.field-0
    (c.has_accounts.ensures.0 c.if-has_accounts.true) listable c.in_ok-list_of.ensures)

pub returns-then-has_accounts-clause-count : goal.returns-then-has_accounts-clause-count
returns-then-has_accounts-clause-count c = listed_count _ c.in_ok-list_of.field-0 c.in_ok-list_of.ensures

pub returns-then-has_accounts-clause-once : goal.returns-then-has_accounts-clause-once
returns-then-has_accounts-clause-once c = listed_once _ c.in_ok-list_of.field-0 c.in_ok-list_of.ensures
