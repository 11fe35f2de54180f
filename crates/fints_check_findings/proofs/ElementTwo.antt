-- What element 2 of a filled segment holds: its literals, or a listed account, wherever a rule asks for it.
use Rattle.std.proofs.Common.{ℕ, ◌<◌, ◌≡◌, ◌≢◌, Bool, true, false, cond, List, [], ◌∷◌, length, map, Option, Some, None, refl, ap, sym, subst, ◌∙◌, arith, inl, inr}
use Rattle.std.specs.Prelude.{Any}
use Rattle.std.specs.List.{list_all, slice_get}
use Rattle.std.specs.Option.{option_map}
use Rattle.std.proofs.lemmas.List.{length-map}
use Rattle.std.proofs.lemmas.Option.{same_Some, slice_get_within, slice_get-map}
use Rattle.fints_syntax_segments.specs.Segment.{item_value}
use Rattle.fints_syntax_segments.specs.Values.{values_at}
use Rattle.fints_script_fields.specs.Fields.{field_accounts, field_items, field_longest, field_shortest}
use Rattle.fints_script_fields.specs.Listed.{account_items, account_text}
use Rattle.fints_script_fields.specs.declared.field.Field.{Field as Class}
use Rattle.fints_script_fields.specs.declared.field.Field.TheVariants as classes
use Rattle.fints_rules_permissions.specs.Kinds.{is_tan_order}
use Rattle.fints_rules_permissions.specs.Orders.{form_of}
use Rattle.fints_rules_permissions.specs.Permits.{Granted}
use Rattle.fints_rules.specs.Rules.{SegmentBreaks}
use Rattle.fints_rules.specs.declared.facts.MessageFacts.{MessageFacts}
use Rattle.fints_rules_permissions.specs.declared.orders.OrderRow.{OrderRow}
use Rattle.fints_rules.specs.declared.rule.Rule.{Rule}
use Rattle.fints_script_rows.specs.NamedFields.{has_accounts, is_account_at}
use Rattle.fints_script_rows.specs.declared.fields.NamedField.{NamedField}
use Rattle.fints_script_cases.specs.declared.values.NamedValue.{NamedValue}
use Rattle.fints_script.specs.Plans.{Admits, IsClosedTemplate, element_two, is_account_field, is_literal, names_account}
use Rattle.fints_script_templates.specs.declared.template.Template.{Template}
use Rattle.fints_script_templates.specs.declared.template.TemplateItem.{TemplateItem}
use Rattle.fints_script_templates.specs.declared.template.TemplateItem.TheVariants.{Literal, Dialog, Field}
use Rattle.fints_wire.specs.Choices.{longest_choice, shortest_choice, value_of, with_longest, with_shortest, with_value}
use Rattle.fints_wire.specs.Filling.{FillingValue, element_at, filled_segment, filling_of}
use Rattle.fints_check_findings.specs.Choosing.{IsChoice, IsSetFor, TemplateBreaksWith, extreme_choice}
use Rattle.fints_check_findings.specs.Elements.{accounts_asked, accounts_at, asks_account, listed_in, literals, template_facts, wants_tan}
use Rattle.fints_check_findings.specs.StepFacts.{TemplateBreaks}
use Rattle.fints_check_findings.specs.declared.choosing.SetAccount.{SetAccount}
use Rattle.fints_check_findings.proofs.Literals.{literal_two, two_is}
use Rattle.fints_check_findings.proofs.Lists.{any_there, none_or_some, set_elsewhere, set_here, there_of}
use Rattle.fints_check_findings.proofs.RuleFacts.{asks_least, items_moved}
use Rattle.fints_script_fields.proofs.ClassLawLemmas.{listed_accounts_are_values_admitted, listed_accounts_are_values_items}
use Rattle.fints_wire.proofs.LawLemmas.{accounts_are_put_in, elements_are_filled_values, extremes_are_admitted_longest, extremes_are_admitted_shortest, values_may_be_set_admitted}

-- ---- literals

pub two_literal : (F : FillingValue) (n : ℕ) (t : Template) → list_all is_literal (element_two t) ≡ true
    → values_at (filled_segment F n t) 2 ≡ literals t
two_literal = literal_two elements_are_filled_values

-- ---- one account field

pub record AccountAt (fields : List NamedField) (items : List TemplateItem) : Type 0 where
  pub place : ℕ
  pub field : NamedField
  pub items_are : items ≡ Field place ∷ []
  pub there : slice_get fields place ≡ Some field
  pub account : has_accounts field.class ≡ true

account_there : (o : Option NamedField) → is_account_at o ≡ true
    → (field : NamedField) × (o ≡ Some field) × (has_accounts field.class ≡ true)
account_there None h = absurd cc
account_there (Some field) h = (field, refl, h)

account_at : (fields : List NamedField) (items : List TemplateItem) → is_account_field fields items ≡ true
    → AccountAt fields items
account_at fields [] h = absurd cc
account_at fields (Literal x ∷ items) h = absurd cc
account_at fields (Dialog ∷ items) h = absurd cc
account_at fields (Field f ∷ x ∷ items) h = absurd cc
account_at fields (Field f ∷ []) h =
    let a = account_there (slice_get fields f) h in
    record { place = f; field = a.0; items_are = refl; there = a.1; account = a.2 }

listed_are : (fields : List NamedField) (items : List TemplateItem) (a : AccountAt fields items)
    → listed_in fields items ≡ field_accounts a.field.class
listed_are fields items a = ap (listed_in fields) a.items_are ∙ ap accounts_at a.there

class_listed : (class : Class) → 0 < length (field_accounts class) → has_accounts class ≡ true
class_listed (classes.Account c) h = refl
class_listed (classes.Text c) h = absurd (omega (arith, h))
class_listed (classes.Bin c) h = absurd (omega (arith, h))
class_listed (classes.OneOf c) h = absurd (omega (arith, h))

listed_there : (o : Option NamedField) → 0 < length (accounts_at o) → is_account_at o ≡ true
listed_there None h = absurd (omega (arith, h))
listed_there (Some field) h = class_listed field.class h

listed_field : (fields : List NamedField) (items : List TemplateItem) → 0 < length (listed_in fields items)
    → is_account_field fields items ≡ true
listed_field fields [] h = absurd (omega (arith, h))
listed_field fields (Literal x ∷ items) h = absurd (omega (arith, h))
listed_field fields (Dialog ∷ items) h = absurd (omega (arith, h))
listed_field fields (Field f ∷ x ∷ items) h = absurd (omega (arith, h))
listed_field fields (Field f ∷ []) h = listed_there (slice_get fields f) h

asked_are : (fields : List NamedField) (r : Rule) (t : Template) → asks_account r ≡ true
    → accounts_asked fields r t ≡ listed_in fields (element_two t)
asked_are fields r t asks = ap (λ (b : Bool). cond b (listed_in fields (element_two t)) []) asks

some_asked : {X : Type 0} (b : Bool) (xs : List X) → 0 < length (cond b xs []) → b ≡ true
some_asked true xs h = refl
some_asked false xs h = absurd (omega (arith, h))

-- where the rule is asked for listed accounts, element 2 is a field of them
pub record IsAsked (fields : List NamedField) (r : Rule) (t : Template) : Type 0 where
  pub asks : asks_account r ≡ true
  pub at : AccountAt fields (element_two t)
  pub accounts : accounts_asked fields r t ≡ field_accounts at.field.class

pub asked : (fields : List NamedField) (r : Rule) (t : Template) → 0 < length (accounts_asked fields r t)
    → IsAsked fields r t
asked fields r t some =
    let asks = some_asked (asks_account r) (listed_in fields (element_two t)) some in
    let listed : 0 < length (listed_in fields (element_two t)) = subst (λ (xs : List (List (List ℕ))). 0 < length xs) (asked_are fields r t asks) some in
    let a = account_at fields (element_two t) (listed_field fields (element_two t) listed) in
    record { asks = asks; at = a; accounts = asked_are fields r t asks ∙ listed_are fields (element_two t) a }

-- ---- choices

-- each field that lists no accounts has its shortest value
abbrev pub IsShortest : List NamedField → List NamedValue → Type 0
IsShortest fields values =
    (f : ℕ) (field : NamedField) (value : NamedValue) → slice_get fields f ≡ Some field
    → has_accounts field.class ≡ false → slice_get values f ≡ Some value
    → value.value ≡ field_shortest field.class

-- each has its longest one
abbrev pub IsLongest : List NamedField → List NamedValue → Type 0
IsLongest fields values =
    (f : ℕ) (field : NamedField) (value : NamedValue) → slice_get fields f ≡ Some field
    → has_accounts field.class ≡ false → slice_get values f ≡ Some value
    → value.value ≡ field_longest field.class

abbrev pub IsExtreme : Bool → List NamedField → List NamedValue → Type 0
IsExtreme true fields values = IsLongest fields values
IsExtreme false fields values = IsShortest fields values

longest_is : (fields : List NamedField) → IsLongest fields (longest_choice fields)
longest_is fields f field value at single there =
    let stands : slice_get (longest_choice fields) f ≡ Some (with_longest field) = slice_get-map with_longest fields f ∙ ap (option_map with_longest) at in
    let same : value ≡ with_longest field = same_Some value (with_longest field) (sym there ∙ stands) in
    ap (λ (v : NamedValue). v.value) same

pub shortest_at : (fields : List NamedField) (f : ℕ) (field : NamedField) → slice_get fields f ≡ Some field
    → slice_get (shortest_choice fields) f ≡ Some (with_shortest field)
shortest_at fields f field at = slice_get-map with_shortest fields f ∙ ap (option_map with_shortest) at

pub shortest_is : (fields : List NamedField) → IsShortest fields (shortest_choice fields)
shortest_is fields f field value at single there =
    let same : value ≡ with_shortest field = same_Some value (with_shortest field) (sym there ∙ shortest_at fields f field at) in
    ap (λ (v : NamedValue). v.value) same

pub extreme_is : (most : Bool) (fields : List NamedField) → IsExtreme most fields (extreme_choice most fields)
extreme_is true fields = longest_is fields
extreme_is false fields = shortest_is fields

pub extreme_admitted : (most : Bool) (fields : List NamedField) → Admits fields (extreme_choice most fields)
extreme_admitted true fields = extremes_are_admitted_longest fields
extreme_admitted false fields = extremes_are_admitted_shortest fields

with_account_is : (fields : List NamedField) (place : ℕ) (field : NamedField) (text : List ℕ)
    → slice_get fields place ≡ Some field → has_accounts field.class ≡ true
    → IsShortest fields (with_value (shortest_choice fields) place field text)
with_account_is fields place field text at account f other value there single chosen =
    let apart : f ≢ place = λ e.
    let same : other ≡ field = same_Some other field (sym there ∙ (ap (λ (k : ℕ). slice_get fields k) e ∙ at)) in
    let no_match : true ≡ false = sym account ∙ (ap (λ (x : NamedField). has_accounts x.class) (sym same) ∙ single) in
    cc
    in
    shortest_is fields f other value there single (sym (set_elsewhere (shortest_choice fields) place f (value_of field text) apart) ∙ chosen)

-- ---- listed accounts

item_values : (account : List (List ℕ)) → map item_value (account_items account) ≡ account
item_values [] = refl
item_values (x ∷ xs) = ap (λ (vs : List (List ℕ)). x ∷ vs) (item_values xs)

same_accounts : (a b : List (List ℕ)) → account_items a ≡ account_items b → a ≡ b
same_accounts a b e = sym (item_values a) ∙ (ap (map item_value) e ∙ item_values b)

module _ (fields : List NamedField) (t : Template) where
  abbrev Items : List NamedValue → ℕ → ℕ → List (List ℕ)
  Items values number n = values_at (filled_segment (filling_of fields values number) n t) 2

  two_field : (a : AccountAt fields (element_two t)) → element_at t 2 ≡ Field a.place ∷ []
  two_field a = two_is t ∙ a.items_are

  -- the listed account that is chosen is there
  record IsStanding (a : AccountAt fields (element_two t)) (X : List (List ℕ)) : Type 0 where
    listed_at : ℕ
    listed : slice_get (field_accounts a.field.class) listed_at ≡ Some X

  standing : (values : List NamedValue) (number n : ℕ) → Admits fields values
      → (a : AccountAt fields (element_two t)) → IsStanding a (Items values number n)
  standing values number n admits a =
      let (value, there, place, account, listed, is) = accounts_are_put_in fields values number n 2 a.place t a.field admits (two_field a) a.there a.account in
      record { listed_at = place; listed = listed.listed ∙ ap (λ (x : List (List ℕ)). Some x) (sym is) }

  -- the account that is set is there
  set_stands : (a : AccountAt fields (element_two t)) (k : ℕ) (account : List (List ℕ))
      → slice_get (field_accounts a.field.class) k ≡ Some account → (number n : ℕ)
      → Items (with_value (shortest_choice fields) a.place a.field (account_text account)) number n ≡ account
  set_stands a k account at number n =
      let V = with_value (shortest_choice fields) a.place a.field (account_text account) in
      let admits : Admits fields V =
      values_may_be_set_admitted fields (shortest_choice fields) a.place a.field (account_text account)
      (extremes_are_admitted_shortest fields) a.there
      (listed_accounts_are_values_admitted a.field.class k account at) in
      let (value, there, place, stands, listed, is) = accounts_are_put_in fields V number n 2 a.place t a.field admits (two_field a) a.there a.account in
      let within : a.place < length (shortest_choice fields) =
      subst (λ (m : ℕ). a.place < m) (sym (length-map fields with_shortest))
      (slice_get_within fields a.place a.field a.there) in
      let same : value ≡ value_of a.field (account_text account) =
      same_Some value (value_of a.field (account_text account))
      (sym there
      ∙ set_here (shortest_choice fields) a.place (value_of a.field (account_text account)) within) in
      let items : account_items stands ≡ account_items account =
      sym listed.items ∙ (ap (λ (v : NamedValue). field_items a.field.class v.value) same ∙ (listed_accounts_are_values_items a.field.class k account at).items)
      in
      is ∙ same_accounts stands account items

  module _ (orders : List OrderRow) (closed : IsClosedTemplate fields orders t) (r : Rule) where
    -- where the rule is asked for no account, and asks what is there, its literals are
    record IsPlain (X : List (List ℕ)) : Type 0 where
      account : asks_account r ≡ true → names_account (form_of orders t.kind t.version) ≡ true
          → X ≡ literals t
      process : is_tan_order t.kind ≡ true → X ≡ literals t

    plain : (values : List NamedValue) (number n : ℕ) → Admits fields values → accounts_asked fields r t ≡ []
        → IsPlain (Items values number n)
    plain values number n admits none = record {
      account = λ asks names. elim (closed.account names) [
        | inl literal ↦ two_literal (filling_of fields values number) n t literal
        | inr field ↦
            let a = account_at fields (element_two t) field in
            let s = standing values number n admits a in
            let empty : field_accounts a.field.class ≡ [] = sym (listed_are fields (element_two t) a) ∙ (sym (asked_are fields r t asks) ∙ none) in
            let no_match : slice_get [] s.listed_at ≡ Some (Items values number n) =
            subst (λ (xs : List (List (List ℕ))). slice_get xs s.listed_at ≡ Some (Items values number n))
            empty s.listed in
            absurd cc
      ];
      process = λ tan. two_literal (filling_of fields values number) n t (closed.process tan);
    }

-- ---- both ways

module _ (fields : List NamedField) (granted : Granted) (f : MessageFacts) (r : Rule) (t : Template)
    (count : ℕ) (closed : IsClosedTemplate fields granted.orders t) where
  abbrev With : List (List ℕ) → Type 0
  With items = SegmentBreaks granted f r (template_facts t count items)

  abbrev Two : List NamedValue → ℕ → ℕ → List (List ℕ)
  Two values number n = values_at (filled_segment (filling_of fields values number) n t) 2

  pub template_complete : (values : List NamedValue) (number n : ℕ) → Admits fields values
      → With (Two values number n) → TemplateBreaks granted fields f r t count
  template_complete values number n admits b =
      elim (none_or_some (accounts_asked fields r t)) [
        | inl none ↦
            let p = plain fields t granted.orders closed r values number n admits none in
            inr (none, items_moved granted f t count (Two values number n) (literals t) r p.account p.process b)
        | inr some ↦
            let a = asked fields r t some in
            let s = standing fields t values number n admits a.at in
            inl
            (subst (λ (xs : List (List (List ℕ))). Any With xs) (sym a.accounts)
            (any_there With (field_accounts a.at.field.class) s.listed_at (Two values number n)
            s.listed b))
      ]

  abbrev Own : List NamedValue
  Own = extreme_choice (wants_tan r) fields

  -- with these values, shortest ones but for accounts, or for P12 longest ones, it breaks the rule whatever its number
  pub record IsBrokenBy (values : List NamedValue) : Type 0 where
    pub admitted : Admits fields values
    pub extreme : IsExtreme (wants_tan r) fields values
    pub breaks : (number n : ℕ) → With (Two values number n)

  own_broken : accounts_asked fields r t ≡ [] → With (literals t) → IsBrokenBy Own
  own_broken none own = record {
    admitted = extreme_admitted (wants_tan r) fields;
    extreme = extreme_is (wants_tan r) fields;
    breaks = λ number n.
        let p = plain fields t granted.orders closed r Own number n (extreme_admitted (wants_tan r) fields) none in
        items_moved granted f t count (literals t) (Two Own number n) r (λ asks names. sym (p.account asks names)) (λ tan. sym (p.process tan)) own;
  }

  set_broken : asks_account r ≡ true
      → (a : AccountAt fields (element_two t)) (k : ℕ) (account : List (List ℕ))
      → slice_get (field_accounts a.field.class) k ≡ Some account → With account
      → IsBrokenBy (with_value (shortest_choice fields) a.place a.field (account_text account))
  set_broken asks a k account at b = record {
    admitted =
        values_may_be_set_admitted fields (shortest_choice fields) a.place a.field (account_text account)
        (extremes_are_admitted_shortest fields) a.there
        (listed_accounts_are_values_admitted a.field.class k account at);
    extreme =
        subst
        (λ (most : Bool).
        IsExtreme most fields
        (with_value (shortest_choice fields) a.place a.field (account_text account)))
        (sym (asks_least r asks))
        (with_account_is fields a.place a.field (account_text account) a.there a.account);
    breaks = λ number n. subst With (sym (set_stands fields t a k account at number n)) b;
  }

  -- where the account that is set is
  set_at : (s : SetAccount) → IsSetFor granted fields f r t count s → AccountAt fields (element_two t)
  set_at s w =
      let b = w.breaking in
      let within = slice_get_within (field_accounts w.field.class) s.account b.account b.listed in
      record { place = s.field; field = w.field; items_are = w.items_are; there = w.there; account = class_listed w.field.class (omega (arith, within)) }

  -- values with another listed account there are admitted
  pub other_admitted : (s : SetAccount) (w : IsSetFor granted fields f r t count s) (k : ℕ)
      (other : List (List ℕ)) → slice_get (field_accounts w.field.class) k ≡ Some other
      → Admits fields (with_value (shortest_choice fields) s.field w.field (account_text other))
  other_admitted s w k other listed =
      values_may_be_set_admitted fields (shortest_choice fields) s.field w.field (account_text other)
      (extremes_are_admitted_shortest fields) w.there
      (listed_accounts_are_values_admitted w.field.class k other listed)

  -- no account before the one that is set breaks it
  pub template_first : (s : SetAccount) (w : IsSetFor granted fields f r t count s) (k : ℕ)
      (other : List (List ℕ)) → k < s.account → slice_get (field_accounts w.field.class) k ≡ Some other
      → (number n : ℕ)
      → With (Two (with_value (shortest_choice fields) s.field w.field (account_text other)) number n) → ⊥
  unfolding set_at
  template_first s w k other less listed number n b =
      w.breaking.first k other less listed
      (subst With (set_stands fields t (set_at s w) k other listed number n) b)

  -- the values with the account that is set
  pub template_with : (choice : Option SetAccount) (values : List NamedValue)
      → TemplateBreaksWith granted fields f r t count choice → IsChoice (wants_tan r) fields choice values
      → IsBrokenBy values
  unfolding set_at
  template_with None values (none, own) is = subst IsBrokenBy (sym is) (own_broken none own)
  template_with (Some s) values w is =
      let b = w.breaking in
      subst IsBrokenBy (sym (is w.field b.account w.there b.listed)) (set_broken w.asks (set_at s w) s.account b.account b.listed b.breaks)

  pub template_sound : TemplateBreaks granted fields f r t count
      → (values : List NamedValue) × IsBrokenBy values
  template_sound (inl any) =
      let some : 0 < length (accounts_asked fields r t) = omega (arith, any.2) in
      let a = asked fields r t some in
      let found = subst (λ (xs : List (List (List ℕ))). Any With xs) a.accounts any in
      let at : slice_get (field_accounts a.at.field.class) found.0 ≡ Some found.1 =
      there_of (field_accounts a.at.field.class) found.0 found.1 found.2 found.3 in
      (with_value (shortest_choice fields) a.at.place a.at.field (account_text found.1), set_broken a.asks a.at found.0 found.1 at found.4)
  template_sound (inr (none, own)) = (Own, own_broken none own)
