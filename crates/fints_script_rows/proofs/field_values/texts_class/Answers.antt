use Rattle.std.proofs.Common.{◌≢◌, ℕ, List, AllPairs, Ok, ap, inr, sym, subst, ◌∙◌}
use Rattle.std.proofs.lemmas.Bool.{false≢true}
use Rattle.fints_script_rows.specs.Fields.{oneof}
use Rattle.fints_script_rows.proofs.Listings.{AreTexts, texts_made, texts_past, texts_twice}
use Rattle.fints_script_rows.proofs.field_values.texts_class.Goals as goal

abbrev AreApart : List (List ℕ) → Type 0
AreApart texts = AllPairs (λ s t. s ≢ t) texts

pub returns-then-not-distinct : goal.returns-then-not-distinct
returns-then-not-distinct c =
    inr
    (texts_twice c.args.texts.items
    (λ apart.
    false≢true
    (sym c.if-not-distinct.true
    ∙ c.in_ok-distinct.ensures.1 (subst AreApart (sym c.deref.ensures.value) apart))))

pub returns-in-None : goal.returns-in-None
returns-in-None c =
    inr (texts_past c.args.texts.items (subst AreApart c.deref.ensures.value (c.in_ok-distinct.ensures.0 c.if-not-distinct.false))
    (λ good. false≢true (c.in-None.ensures.some.1 (subst AreTexts (sym c.new.ensures) good))))

pub returns-in-Some : goal.returns-in-Some
returns-in-Some c =
    let class = c.in-Some.class in
    let values = c.in-Some.ensures.values ∙ c.new.ensures in
    texts_made c.args.texts.items (subst AreTexts values (class.some, class.few, class.short, class.distinct)) ∙ ap (λ l. Ok (oneof l)) (sym values)
