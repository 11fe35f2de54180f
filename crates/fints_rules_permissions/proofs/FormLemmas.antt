-- One more row of an order table, in the map of forms.
use Rattle.std.proofs.Common.{◌≡◌, ◌||◌, ℕ, Bool, true, false, cond, List, [], ◌∷◌, ◌++◌, Option, Some, None, refl, ap, ◌∙◌, sym, subst}
use Rattle.std.specs.Prelude.{Any, find, is_some, option_map}
use Rattle.std.specs.List.{list_any}
use Rattle.std.specs.Bool.{Decides}
use Rattle.std.specs.Cmp.{unsigned_Decides}
use Rattle.std.proofs.lemmas.Bool.{false≢true}
use Rattle.std.proofs.lemmas.Bool.Decides.{Decides-and}
use Rattle.std.proofs.lemmas.List.Folds.{Any-from_list_any, list_any-from_Any}
use Rattle.std.proofs.lemmas.Slice.Eq.{bytes_eq-Decides}
use Rattle.fints_rules_permissions.specs.FormMaps.{HoldsForms}
use Rattle.fints_rules_permissions.specs.OrderKeys.{key_eq, row_key}
use Rattle.fints_rules_permissions.specs.Orders.{IsSameOrder, form_of, is_order_of}
use Rattle.fints_rules_permissions.specs.declared.keys.OrderKey.{OrderKey}
use Rattle.fints_rules_permissions.specs.declared.orders.AccountForm.{AccountForm}
use Rattle.fints_rules_permissions.specs.declared.orders.OrderRow.{OrderRow}
use Rattle.fints_rules_permissions.proofs.LimitLemmas.{key_decides}

-- ---- what is found in a list with one row more

pushed_step : (b c : Bool) (x row : OrderRow) (old new : Option OrderRow)
    → (c ≡ true → cond b (Some x) old ≡ None) → ((c ≡ true → old ≡ None) → new ≡ cond c (Some row) old)
    → cond b (Some x) new ≡ cond c (Some row) (cond b (Some x) old)
pushed_step true true x row old new none later = let clash : ◌≡◌ {A = Option OrderRow} (Some x) None = none refl in absurd cc
pushed_step true false x row old new none later = refl
pushed_step false c x row old new none later = later none

pushed : (p : OrderRow → Bool) (rows : List OrderRow) (row : OrderRow) → (p row ≡ true → find p rows ≡ None)
    → find p (rows ++ row ∷ []) ≡ cond (p row) (Some row) (find p rows)
pushed p [] row none = refl
pushed p (x ∷ rows) row none = pushed_step (p x) (p row) x row (find p rows) (find p (rows ++ row ∷ [])) none (pushed p rows row)

form_chosen : (c : Bool) (row : OrderRow) (old : Option OrderRow)
    → option_map (λ (r : OrderRow). r.form) (cond c (Some row) old) ≡ cond c (Some row.form)
    (option_map (λ (r : OrderRow). r.form) old)
form_chosen true row old = refl
form_chosen false row old = refl

no_form : (found : Option OrderRow) → option_map (λ (r : OrderRow). r.form) found ≡ None → found ≡ None
no_form None h = refl
no_form (Some r) h = absurd cc

-- the map has one form more, of a kind and version that no row had
pub forms_more : (rows : List OrderRow) (row : OrderRow) (forms more : OrderKey → Option AccountForm)
    → HoldsForms rows forms → is_some (forms (row_key row)) ≡ false
    → ((q : OrderKey) → more q ≡ cond (key_eq (row_key row) q) (Some row.form) (forms q))
    → HoldsForms (rows ++ row ∷ []) more
forms_more rows row forms more holds fresh updates q =
    let p : OrderRow → Bool = is_order_of q.kind q.version in
    let none : p row ≡ true → find p rows ≡ None = λ h.
    let same : row_key row ≡ q = (key_decides (row_key row) q).0 h in
    no_form (find p rows) (sym (holds q) ∙ subst (λ k. forms k ≡ None) same (is_none (forms (row_key row)) fresh)) in
    updates q ∙ ap (λ o. cond (p row) (Some row.form) o) (holds q)
    ∙ sym (ap (option_map (λ (r : OrderRow). r.form)) (pushed p rows row none)
    ∙ form_chosen (p row) row (find p rows))
  where
    is_none : (o : Option AccountForm) → is_some o ≡ false → o ≡ None
    is_none None h = refl
    is_none (Some x) h = absurd (false≢true (sym h))

-- ---- whether a kind and version is in a list

found_step : (b : Bool) (x : OrderRow) (o : Option OrderRow) (rest : Bool)
    → is_some (option_map (λ (r : OrderRow). r.form) o) ≡ rest
    → is_some (option_map (λ (r : OrderRow). r.form) (cond b (Some x) o)) ≡ (b || rest)
found_step true x o rest h = refl
found_step false x o rest h = h

found_any : (kind : List ℕ) (version : ℕ) (rows : List OrderRow)
    → is_some (form_of rows kind version) ≡ list_any (is_order_of kind version) rows
found_any kind version [] = refl
found_any kind version (x ∷ rows) =
    found_step (is_order_of kind version x) x (find (is_order_of kind version) rows)
    (list_any (is_order_of kind version) rows) (found_any kind version rows)

order_decides : (row x : OrderRow) → Decides (is_order_of row.kind row.version x) (IsSameOrder row x)
order_decides row x =
    let d = Decides-and _ _ (bytes_eq-Decides x.kind row.kind) (unsigned_Decides x.version row.version) in
    (λ h. let same = d.0 h in (sym same.0, sym same.1), λ same. d.1 (sym same.0, sym same.1))

pub stands : (rows : List OrderRow) (row : OrderRow) → is_some (form_of rows row.kind row.version) ≡ true
    → Any (IsSameOrder row) rows
stands rows row h =
    let (k, x, lt, at, t) = Any-from_list_any (is_order_of row.kind row.version) rows (sym (found_any row.kind row.version rows) ∙ h) in
    (k, x, lt, at, (order_decides row x).0 t)

pub stands_not : (rows : List OrderRow) (row : OrderRow) → is_some (form_of rows row.kind row.version) ≡ false
    → Any (IsSameOrder row) rows → ⊥
stands_not rows row h (k, x, lt, at, same) =
    let there = list_any-from_Any (is_order_of row.kind row.version) rows (k, x, lt, at, (order_decides row x).1 same) in
    false≢true (sym h ∙ (found_any row.kind row.version rows ∙ there))
