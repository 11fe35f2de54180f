-- What a rule asks: where there is less of a TAN, or for P12 more, no less is broken, and items that a rule doesn't ask for change nothing.
use Rattle.std.proofs.Common.{ℕ, ◌≡◌, ◌≢◌, true, false, List, [], get_or, Some, refl, ap, sym, subst, ◌∙◌, inl, inr}
use Rattle.std.specs.Prelude.{Bool, IsTrue}
use Rattle.fints_rules_permissions.specs.Accounts.{Account}
use Rattle.fints_rules_permissions.specs.Kinds.{is_tan_order}
use Rattle.fints_rules_permissions.specs.Orders.{form_of}
use Rattle.fints_rules_permissions.specs.Permits.{Granted}
use Rattle.fints_rules.specs.Rules.{CarriesTan, MessageBreaks, NamesAccount, SegmentBreaks}
use Rattle.fints_rules.specs.SegmentFacts.{SegmentFactsValue}
use Rattle.fints_rules.specs.declared.facts.MessageFacts.{MessageFacts}
use Rattle.fints_rules_permissions.specs.declared.orders.AccountForm.{AccountForm}
use Rattle.fints_rules_permissions.specs.declared.orders.AccountForm.TheVariants.{Nameless, National, International}
use Rattle.fints_rules_permissions.specs.declared.orders.OrderRow.{OrderRow}
use Rattle.fints_rules.specs.declared.rule.Rule.{Rule}
use Rattle.fints_rules.specs.declared.rule.Rule.TheVariants as rule
use Rattle.fints_script.specs.Plans.{names_account}
use Rattle.fints_script_templates.specs.declared.template.Template.{Template}
use Rattle.fints_check_findings.specs.Elements.{asks_account, template_facts, wants_tan}

-- ---- facts of messages

-- the same but for the TAN
abbrev pub with_tan : MessageFacts → Bool → MessageFacts
with_tan f has = record {
  protocol = f.protocol;
  kinds = f.kinds;
  signatures = f.signatures;
  submits = f.submits;
  sends = f.sends;
  ends = f.ends;
  has_tan = has;
  has_tan_order = f.has_tan_order;
  demanding = f.demanding;
}

-- a TAN at most where the others have one, or at least there
abbrev pub HasTanAs : Bool → Bool → Bool → Type 0
HasTanAs true has other = IsTrue other → IsTrue has
HasTanAs false has other = IsTrue has → IsTrue other

pub record IsNoBetter (most : Bool) (f g : MessageFacts) : Type 0 where
  pub same : f ≡ with_tan g f.has_tan
  pub tan : HasTanAs most f.has_tan g.has_tan

message_with_tan : (granted : Granted) (g : MessageFacts) (has : Bool) (r : Rule) → MessageBreaks granted g r
    → MessageBreaks granted (with_tan g has) r
message_with_tan granted g has rule.Protocol b = b
message_with_tan granted g has _ b = b

pub message_no_better : (granted : Granted) (f g : MessageFacts) (r : Rule) → IsNoBetter (wants_tan r) f g
    → MessageBreaks granted g r → MessageBreaks granted f r
message_no_better granted f g r w b = subst (λ (x : MessageFacts). MessageBreaks granted x r) (sym w.same) (message_with_tan granted g f.has_tan r b)

carried : (g : MessageFacts) (has : Bool) → HasTanAs false has g.has_tan → CarriesTan (with_tan g has)
    → CarriesTan g
carried g has tan (inl h) = inl h
carried g has tan (inr h) = inr (tan h)

-- the rules that ask about a TAN
segment_with_tan : (granted : Granted) (g : MessageFacts) (has : Bool) (s : SegmentFactsValue) (r : Rule)
    → HasTanAs (wants_tan r) has g.has_tan → SegmentBreaks granted g r s
    → SegmentBreaks granted (with_tan g has) r s
segment_with_tan granted g has s rule.Tan tan (inl b) = inl (b.0, b.1, λ carries. b.2 (carried g has tan carries))
segment_with_tan granted g has s rule.Tan tan (inr b) = inr (b.0, λ h. b.1 (tan h))
segment_with_tan granted g has s rule.Procedure tan (inl b) = inl b
segment_with_tan granted g has s rule.Procedure tan (inr (plain, listed, one, two)) = inr (plain, listed, (tan one.0, one.1), two)
segment_with_tan granted g has s _ tan b = b

pub segment_no_better : (granted : Granted) (f g : MessageFacts) (s : SegmentFactsValue) (r : Rule)
    → IsNoBetter (wants_tan r) f g → SegmentBreaks granted g r s → SegmentBreaks granted f r s
segment_no_better granted f g s r w b =
    subst (λ (x : MessageFacts). SegmentBreaks granted x r s) (sym w.same)
    (segment_with_tan granted g f.has_tan s r w.tan b)

-- ---- items of a segment

names_form : (form : AccountForm) → form ≢ Nameless → names_account (Some form) ≡ true
names_form Nameless h = absurd (h refl)
names_form National h = refl
names_form International h = refl

formed : (table : List OrderRow) (s : SegmentFactsValue) (who : Account) → NamesAccount table s who
    → names_account (form_of table s.kind s.version) ≡ true
formed table s who names = ap names_account names.form_is ∙ names_form names.form names.named

pub items_moved : (granted : Granted) (f : MessageFacts) (t : Template) (count : ℕ) (X Y : List (List ℕ))
    (r : Rule)
    → (asks_account r ≡ true → names_account (form_of granted.orders t.kind t.version) ≡ true → X ≡ Y)
    → (is_tan_order t.kind ≡ true → X ≡ Y)
    → SegmentBreaks granted f r (template_facts t count X)
    → SegmentBreaks granted f r (template_facts t count Y)
items_moved granted f t count X Y rule.Signatures account process (inl b) = inl b
items_moved granted f t count X Y rule.Signatures account process (inr (plain, (who, names, more))) =
    let same = account refl (formed granted.orders (template_facts t count X) who names) in
    inr (plain, (who, subst (λ (items : List (List ℕ)). NamesAccount granted.orders (template_facts t count items) who) same names, more))
items_moved granted f t count X Y rule.Account account process (inl b) = inl b
items_moved granted f t count X Y rule.Account account process (inr (plain, (who, names, locked))) =
    let same = account refl (formed granted.orders (template_facts t count X) who names) in
    inr (plain, (who, subst (λ (items : List (List ℕ)). NamesAccount granted.orders (template_facts t count items) who) same names, locked))
items_moved granted f t count X Y rule.Tan account process (inl b) = inl b
items_moved granted f t count X Y rule.Tan account process (inr ((tan, two), has)) =
    inr ((tan, ap (λ (items : List (List ℕ)). get_or items 0 []) (sym (process tan)) ∙ two), has)
items_moved granted f t count X Y rule.Procedure account process (inl ((tan, four), takes, several)) =
    inl ((tan, ap (λ (items : List (List ℕ)). get_or items 0 []) (sym (process tan)) ∙ four), takes, several)
items_moved granted f t count X Y rule.Procedure account process (inr b) = inr b
items_moved granted f t count X Y _ account process b = b

-- ---- accounts

-- a rule that asks for an account is broken by no TAN
pub asks_least : (r : Rule) → asks_account r ≡ true → wants_tan r ≡ false
asks_least rule.Procedure h = absurd cc
asks_least _ h = refl
