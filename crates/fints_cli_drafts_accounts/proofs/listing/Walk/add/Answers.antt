use Rattle.std.proofs.Common.{ℕ, List, Some, refl, sym, subst, ◌∙◌}
use Rattle.std.specs.BTreeSet.{contains}
use Rattle.std.proofs.lemmas.Bool.{not-false, not-true, false≢true}
use Rattle.fints_cli_drafts_accounts.specs.Accounts.{IsPermitted}
use Rattle.fints_cli_drafts_accounts.specs.Walks.{FilledIs, asked_of, vec_cmp}
use Rattle.fints_cli_drafts_accounts.proofs.StepLemmas.{step_met, step_none, step_permitted, step_refused}
use Rattle.fints_cli_drafts_accounts.proofs.listing.Walk.add.Goals as goal

pub returns-in-None-clause-holds : goal.returns-in-None-clause-holds
returns-in-None-clause-holds c rows old =
    step_none (asked_of c.args.order.now) rows c.args.row.now c.args.self.now old (rw c.in-None.is at c.in_ok-filled.ensures)

pub returns-then-not-is_new-clause-holds : goal.returns-then-not-is_new-clause-holds
returns-then-not-is_new-clause-holds c rows old =
    let a = asked_of c.args.order.now in
    let k = c.in_ok-text_of.field-0 in
    let fits : FilledIs a c.args.row.now (Some c.in-Some.value) = rw c.in-Some.is at c.in_ok-filled.ensures in
    step_met a rows c.args.row.now c.args.self.now old c.insert.new.self k c.in-Some.value fits.0 fits.1
    c.in_ok-text_of.ensures c.in_ok-is_new.ensures.updates.0
    (not-false (contains vec_cmp c.args.self.now.seen k) (sym c.in_ok-is_new.ensures.added ∙ c.if-not-is_new.true))

pub returns-then-is_permitted-clause-holds : goal.returns-then-is_permitted-clause-holds
returns-then-is_permitted-clause-holds c rows old =
    let a = asked_of c.args.order.now in
    let k = c.in_ok-text_of.field-0 in
    let fits : FilledIs a c.args.row.now (Some c.in-Some.value) = rw c.in-Some.is at c.in_ok-filled.ensures in
    step_permitted a rows c.args.row.now c.args.self.now old c.insert.new.self k c.in-Some.value fits.0 fits.1
    c.in_ok-text_of.ensures c.in_ok-is_new.ensures.updates.0 c.add.new.self
    (not-true (contains vec_cmp c.args.self.now.seen k) (sym c.in_ok-is_new.ensures.added ∙ c.if-not-is_new.false))
    (subst (λ (l : List (List ℕ)). IsPermitted a l) c.items.ensures (c.is_permitted.ensures.0 c.if-is_permitted.true))
    c.in_ok-add.ensures.shows

pub returns-clause-holds : goal.returns-clause-holds
returns-clause-holds c rows old =
    let a = asked_of c.args.order.now in
    let k = c.in_ok-text_of.field-0 in
    let fits : FilledIs a c.args.row.now (Some c.in-Some.value) = rw c.in-Some.is at c.in_ok-filled.ensures in
    step_refused a rows c.args.row.now c.args.self.now old c.insert.new.self k c.in-Some.value fits.0 fits.1
    c.in_ok-text_of.ensures c.in_ok-is_new.ensures.updates.0 _
    (not-true (contains vec_cmp c.args.self.now.seen k) (sym c.in_ok-is_new.ensures.added ∙ c.if-not-is_new.false))
    (λ allowed.
    false≢true (sym c.if-is_permitted.false
    ∙ c.is_permitted.ensures.1 (subst (λ (l : List (List ℕ)). IsPermitted a l) (sym c.items.ensures) allowed)))
    refl refl refl
