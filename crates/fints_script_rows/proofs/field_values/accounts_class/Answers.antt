use Rattle.std.proofs.Common.{◌≢◌, ℕ, List, AllPairs, Ok, ap, inr, sym, subst, ◌∙◌}
use Rattle.std.proofs.lemmas.Bool.{false≢true}
use Rattle.fints_script_rows.specs.Fields.{account}
use Rattle.fints_script_rows.proofs.Listings.{AreAccounts, accounts_made, accounts_past, accounts_twice}
use Rattle.fints_script_rows.proofs.field_values.accounts_class.Goals as goal

abbrev AreApart : List (List (List ℕ)) → Type 0
AreApart accounts = AllPairs (λ s t. s ≢ t) accounts

pub returns-then-not-distinct : goal.returns-then-not-distinct
returns-then-not-distinct c =
    inr
    (accounts_twice c.args.accounts.items c.requires
    (λ apart.
    false≢true
    (sym c.if-not-distinct.true
    ∙ c.in_ok-distinct.ensures.1 (subst AreApart (sym c.deref.ensures.value) apart))))

pub returns-in-None : goal.returns-in-None
returns-in-None c =
    inr (accounts_past c.args.accounts.items c.requires (subst AreApart c.deref.ensures.value (c.in_ok-distinct.ensures.0 c.if-not-distinct.false))
    (λ good. false≢true (c.in-None.ensures.some.1 (subst AreAccounts (sym c.new.ensures) good))))

pub returns-in-Some : goal.returns-in-Some
returns-in-Some c =
    let class = c.in-Some.class in
    let values = c.in-Some.ensures.values ∙ c.new.ensures in
    accounts_made c.args.accounts.items c.requires
    (subst AreAccounts values (class.some, class.few, class.each, class.distinct))
    ∙ ap (λ l. Ok (account l)) (sym values)
