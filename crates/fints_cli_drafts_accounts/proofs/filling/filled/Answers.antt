use Rattle.std.proofs.Common.{ℕ, List, ◌∷◌, ◌++◌, [], None, ap, sym, ◌∙◌, arith, get_or, take}
use Rattle.fints_cli_drafts_accounts.specs.Accounts.{filled_item, filled_items, row_items}
use Rattle.fints_cli_drafts_accounts.proofs.FillLemmas.{filled_more}
use Rattle.fints_cli_drafts_accounts.proofs.filling.filled.Goals as goal

pub loop-i-preserved : goal.loop-i-preserved
loop-i-preserved c =
    let xs = c.args.recorded.now in
    let found = row_items c.args.form c.args.row.now in
    let i = c.loop-i.i in
    let d = c.index-recorded-i.result in
    let item = c.as_slice.ensures ∙ c.index-recorded-i.is in
    let value = c.in_ok-copied.ensures ∙ c.filled_item-value.ensures
    ∙ ap (λ (x : List ℕ). filled_item x (get_or found i None)) item in
    c.in_ok-push.ensures.items
    ∙ ap (λ (l : List (List ℕ)). l ++ c.in_ok-copied.field-0 ∷ []) c.loop-i.invariant
    ∙ ap (λ (x : List ℕ). filled_items (take i xs) found ++ x ∷ []) value
    ∙ sym (filled_more xs found i d (omega arith))
