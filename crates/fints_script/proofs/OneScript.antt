-- A text denotes one script, or has one first fault.
use Rattle.std.proofs.Common.{◌≡◌, ℕ, ◌<◌, ◌≤◌, ◌⊎◌, leb, List, [], ◌∷◌, length, map, Some, None, Result, Ok, Err, ap, subst, sym, ◌∙◌, refl, inl, inr, arith}
use Rattle.std.proofs.lemmas.Bool.{cases_Bool}
use Rattle.std.proofs.lemmas.Bool.Decides.{nat_tests}
use Rattle.std.proofs.lemmas.Option.{none-some, same_Some}
use Rattle.toml.specs.Data.{Data, Members}
use Rattle.fints_syntax_texts.specs.Document.{document}
use Rattle.fints_script_rows.specs.Fields.{field_value}
use Rattle.fints_script_rows.specs.Laws.{OneField}
use Rattle.fints_script_rows.specs.Rows.{part_at}
use Rattle.fints_script_rows.specs.declared.fault.FaultKind.TheVariants as kinds
use Rattle.fints_script_rows.specs.declared.fault.Place.TheVariants as places
use Rattle.fints_script_rows.specs.declared.fault.ScriptFault.{ScriptFault}
use Rattle.fints_script_rows.specs.declared.fields.NamedField.{NamedField}
use Rattle.fints_script.specs.Scripts.{DenoteFields, Denotes, IsFaultOf, IsFirstOf, IsScriptOf, ScriptValue, Top, at_top, dialog_value, fields_from, script_with, top_in}
use Rattle.fints_syntax_texts.specs.declared.lines.TheConstants.{MAX_TEXT}
use Rattle.fints_script.proofs.ReadParts.{ok_err, same_err, same_ok}

-- what a text comes to: a script or a fault
abbrev Outcome : Type 0
Outcome = Result ScriptValue ScriptFault

-- an outcome of one of two sorts is one, where the sorts exclude one another
one_of_two : (A B : Outcome → Type 0) → ((r q : Outcome) → A r → A q → r ≡ q)
    → ((r q : Outcome) → B r → B q → r ≡ q) → ((r q : Outcome) → A r → B q → ⊥) → (r q : Outcome) → A r ⊎ B r
    → A q ⊎ B q → r ≡ q
one_of_two A B one_a one_b apart r q (inl x) (inl y) = one_a r q x y
one_of_two A B one_a one_b apart r q (inl x) (inr y) = absurd (apart r q x y)
one_of_two A B one_a one_b apart r q (inr x) (inl y) = absurd (apart q r y x)
one_of_two A B one_a one_b apart r q (inr x) (inr y) = one_b r q x y

-- an outcome that is a fault
abbrev Stops : {X : Type 0} → Result X ScriptFault → Outcome → Type 0
Stops found r = (f : ScriptFault) × (found ≡ Err f) × (r ≡ Err f)

one_stop : {X : Type 0} (found : Result X ScriptFault) (r q : Outcome) → Stops found r → Stops found q → r ≡ q
one_stop found r q (f, is, r_is) (g, also, q_is) = r_is ∙ ap Err (same_err f g (sym is ∙ also)) ∙ sym q_is

no_stop : {X : Type 0} (found : Result X ScriptFault) (x : X) (r : Outcome) → found ≡ Ok x → Stops found r → ⊥
no_stop found x r is (f, stops, r_is) = ok_err x f (sym is ∙ stops)

module _ (one_field : OneField) where
  -- ---- the fields of rows

  others_once : (fs gs : List NamedField) → map field_value fs ≡ map field_value gs → fs ≡ gs
  others_once [] [] e = refl
  others_once [] (g ∷ gs) e = absurd cc
  others_once (f ∷ fs) [] e = absurd cc
  others_once (f ∷ fs) (g ∷ gs) e =
      let first : f ≡ g = one_field f g cc in
      let rest : fs ≡ gs = others_once fs gs cc in
      λ j. first j ∷ rest j

  pub one_fields : (rows : List Data) (fs gs : List NamedField) → DenoteFields rows fs → DenoteFields rows gs
      → fs ≡ gs
  one_fields rows fs gs h i = others_once fs gs (h.2 ∙ ap (λ others. dialog_value ∷ others) (same_ok h.0 i.0 (sym h.1 ∙ i.1)) ∙ sym i.2)

  -- ---- the rows

  -- what comes after fields without a fault
  abbrev Later : Top → Outcome → Type 0
  Later top r = (fields : List NamedField) × DenoteFields top.fields fields × (script_with top fields ≡ r)

  one_later : (top : Top) (r q : Outcome) → Later top r → Later top q → r ≡ q
  one_later top r q (fs, has, r_is) (gs, also, q_is) = sym r_is ∙ ap (script_with top) (one_fields top.fields fs gs has also) ∙ q_is

  abbrev RowsGive : Top → Outcome → Type 0
  RowsGive top r = Stops (fields_from top.fields) r ⊎ Later top r

  one_of_rows : (top : Top) (r q : Outcome) → RowsGive top r → RowsGive top q → r ≡ q
  one_of_rows top = one_of_two (Stops (fields_from top.fields)) (Later top) (one_stop (fields_from top.fields)) (one_later top)
      (λ r q stops later. no_stop (fields_from top.fields) later.1.0 r later.1.1 stops)

  -- ---- the table

  abbrev Behind : Members → Outcome → Type 0
  Behind ms r = (top : Top) × (top_in ms ≡ Ok top) × RowsGive top r

  one_behind : (ms : Members) (r q : Outcome) → Behind ms r → Behind ms q → r ≡ q
  one_behind ms r q (top, is, r_is) (other, also, q_is) =
      one_of_rows other r q (subst (λ (t : Top). RowsGive t r) (same_ok top other (sym is ∙ also)) r_is) q_is

  abbrev TableGives : Members → Outcome → Type 0
  TableGives ms r = Stops (part_at places.Top (top_in ms)) r ⊎ Behind ms r

  one_of_table : (ms : Members) (r q : Outcome) → TableGives ms r → TableGives ms q → r ≡ q
  one_of_table ms = one_of_two (Stops (part_at places.Top (top_in ms))) (Behind ms) (one_stop (part_at places.Top (top_in ms))) (one_behind ms)
      (λ r q stops behind. no_stop (part_at places.Top (top_in ms)) behind.0 r (ap (part_at places.Top) behind.1) stops)

  script_given : (ms : Members) (s : ScriptValue) → IsScriptOf ms s → TableGives ms (Ok s)
  script_given ms s h = inr (h.top, h.is_top, inr (s.fields, h.fields, h.is))

  fault_given : (ms : Members) (f : ScriptFault) → IsFaultOf ms f → TableGives ms (Err f)
  fault_given ms f (inl e) = inl (f, e, refl)
  fault_given ms f (inr (top, is, inl e)) = inr (top, is, inl (f, e, refl))
  fault_given ms f (inr (top, is, inr (fields, has, e))) = inr (top, is, inr (fields, has, e))

  -- ---- the text

  abbrev TooLong : List ℕ → Outcome → Type 0
  TooLong text r = (MAX_TEXT < length text) × (r ≡ Err (at_top kinds.Limit))

  abbrev NoToml : List ℕ → Outcome → Type 0
  NoToml text r = (length text ≤ MAX_TEXT) × (document text ≡ None) × (r ≡ Err (at_top kinds.NotToml))

  abbrev IsTable : List ℕ → Outcome → Type 0
  IsTable text r = (ms : Members) × (document text ≡ Some ms) × TableGives ms r

  abbrev TextGives : List ℕ → Outcome → Type 0
  TextGives text r = TooLong text r ⊎ NoToml text r ⊎ IsTable text r

  -- a text that is too long is no document
  pub too_long : (text : List ℕ) → MAX_TEXT < length text → document text ≡ None
  unfolding document
  too_long text h = elim (cases_Bool (leb (length text) 1048576)) [
    | inl le ↦ let short : length text ≤ 1048576 = grind (arith, nat_tests) in absurd (omega arith)
    | inr gt ↦ rw gt refl
  ]

  one_table : (text : List ℕ) (r q : Outcome) → IsTable text r → IsTable text q → r ≡ q
  one_table text r q (ms, is, r_is) (other, also, q_is) =
      one_of_table other r q
      (subst (λ (m : Members). TableGives m r) (same_Some ms other (sym is ∙ also)) r_is) q_is

  from_toml : (text : List ℕ) (r q : Outcome) → NoToml text r ⊎ IsTable text r
      → NoToml text q ⊎ IsTable text q → r ≡ q
  from_toml text = one_of_two (NoToml text) (IsTable text) (λ r q h i. h.2 ∙ sym i.2) (one_table text) (λ r q h i. none-some i.0 (sym h.1 ∙ i.1))

  long_and_later : (text : List ℕ) (r q : Outcome) → TooLong text r → NoToml text q ⊎ IsTable text q → ⊥
  long_and_later text r q h (inl other) = let long = h.0 in let short = other.0 in omega arith
  long_and_later text r q h (inr of) = none-some of.0 (sym (too_long text h.0) ∙ of.1)

  one_outcome : (text : List ℕ) (r q : Outcome) → TextGives text r → TextGives text q → r ≡ q
  one_outcome text = one_of_two (TooLong text) (λ r. NoToml text r ⊎ IsTable text r) (λ r q h i. h.1 ∙ sym i.1) (from_toml text) (long_and_later text)

  script_of : (text : List ℕ) (s : ScriptValue) → Denotes text s → TextGives text (Ok s)
  script_of text s h = inr (inr (h.members, h.toml, script_given h.members s h.is))

  fault_of : (text : List ℕ) (f : ScriptFault) → IsFirstOf text f → TextGives text (Err f)
  fault_of text f (inl long) = inl (long.0, ap Err long.1)
  fault_of text f (inr (inl other)) = inr (inl (other.0, other.1, ap Err other.2))
  fault_of text f (inr (inr (ms, is, e))) = inr (inr (ms, is, fault_given ms f e))

  -- ---- the laws

  pub one_script : (text : List ℕ) (s t : ScriptValue) → Denotes text s → Denotes text t → s ≡ t
  one_script text s t h i = same_ok s t (one_outcome text (Ok s) (Ok t) (script_of text s h) (script_of text t i))

  pub no_script : (text : List ℕ) (f : ScriptFault) (s : ScriptValue) → IsFirstOf text f → Denotes text s → ⊥
  no_script text f s h i = ok_err s f (one_outcome text (Ok s) (Err f) (script_of text s i) (fault_of text f h))

  pub one_fault : (text : List ℕ) (f g : ScriptFault) → IsFirstOf text f → IsFirstOf text g → f ≡ g
  one_fault text f g h i = same_err f g (one_outcome text (Err f) (Err g) (fault_of text f h) (fault_of text g i))
