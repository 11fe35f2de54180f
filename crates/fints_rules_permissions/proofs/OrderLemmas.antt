-- The rows of the entries, one by one.
use Rattle.std.proofs.Common.{◌≡◌, ℕ, ◌+◌, ◌<◌, ◌≤◌, List, [], ◌∷◌, ◌++◌, length, get_or, take, drop, map, Option, Some, Result, Ok, Err, refl, ap, ◌∙◌, sym, arith, inr}
use Rattle.std.specs.Prelude.{IfOk, IfErr, Any}
use Rattle.std.proofs.lemmas.List.{take_more, drop_more, take-append-drop, map_push, get_or-map, length-map, length-take-le, get_or_default}
use Rattle.std.proofs.lemmas.List.Quantifiers.{all_pairs_push}
use Rattle.toml.specs.declared.value.Value.{Value}
use Rattle.toml.specs.Data.{Data, array, string}
use Rattle.toml.specs.View.{view, items_view}
use Rattle.fints_syntax_texts.specs.Document.{item_list}
use Rattle.fints_rules_permissions.specs.declared.orders.OrderRow.{OrderRow}
use Rattle.fints_rules_permissions.specs.declared.orders.TableFault.{TableFault}
use Rattle.fints_rules_permissions.specs.declared.orders.TableFault.TheVariants as faults
use Rattle.fints_rules_permissions.specs.Orders.{row_of, IsSameOrder, AreRows, IsFirstBad, IsTableAt}
use Rattle.fints_rules_permissions.specs.OrderFaults.{IsEntryFault, IsFaultAt}

-- the values of an array are its entries
pub item_list-view : (vs : List Value) → item_list (items_view vs) ≡ map view vs
item_list-view [] = refl
item_list-view (v ∷ vs) = ap (λ ds. view v ∷ ds) (item_list-view vs)

-- what is past a list of entries
pub no_data : Data
no_data = string []

-- what was read of the entry at i
pub read_within : (ds : List Data) (read : List (Option OrderRow)) (i : ℕ) → read ≡ map row_of ds
    → i < length read → i < length ds
read_within ds read i is lt = omega (arith, length-map ds row_of, ap length is, lt)

pub read_at : (ds : List Data) (read : List (Option OrderRow)) (i : ℕ) (row : Option OrderRow)
    → read ≡ map row_of ds → i < length ds → row ≡ get_or read i row → row_of (get_or ds i no_data) ≡ row
read_at ds read i row is lt at =
    sym (get_or-map row_of ds i no_data row lt) ∙ ap (λ os. get_or os i row) (sym is) ∙ sym at

-- one more row
pub rows_more : (ds : List Data) (i : ℕ) (d : Data) (rows : List OrderRow) (row : OrderRow) → i < length ds
    → AreRows (take i ds) rows → row_of (get_or ds i d) ≡ Some row
    → (Any (IsSameOrder row) rows → ⊥) → AreRows (take (i + 1) ds) (rows ++ row ∷ [])
rows_more ds i d rows row lt are is none =
    let each : map row_of (take (i + 1) ds) ≡ map Some (rows ++ row ∷ []) =
    ap (map row_of) (take_more ds i d lt) ∙ map_push row_of (take i ds) (get_or ds i d) ∙ ap (λ os. os ++ row_of (get_or ds i d) ∷ []) are.each
    ∙ ap (λ o. map Some rows ++ o ∷ []) is ∙ sym (map_push Some rows row) in
    record {
      each = each;
      distinct =
          all_pairs_push (λ a b. IsSameOrder a b → ⊥) rows row are.distinct
          (λ k x lt' same.
          none (
            k,
            get_or rows k x,
            lt',
            get_or_default rows k (get_or rows k x) x lt',
            (sym same.0, sym same.1),
          ));
    }

-- the entry at i, after good rows, is bad
pub first_bad : (ds : List Data) (i n : ℕ) (d : Data) (rows : List OrderRow)
    (Bad : List OrderRow → Data → Type 0)
    → i < length ds → n ≡ i + 1 → AreRows (take i ds) rows → Bad rows (get_or ds i d)
    → IsFirstBad ds n Bad
first_bad ds i n d rows Bad lt is are bad = record {
  earlier = take i ds;
  entry = get_or ds i d;
  later = drop (i + 1) ds;
  entries_are = sym (take-append-drop i ds) ∙ ap (λ es. take i ds ++ es) (drop_more ds i d lt);
  number = omega (arith, length-take-le i ds (omega arith));
  rows = rows;
  rows_are = are;
  bad = bad;
}

-- the same of an array
pub table_at : (vs : List Value) (rows : List OrderRow) → length vs ≤ 1000 → AreRows (map view vs) rows
    → IsTableAt (Some (array (items_view vs))) rows
table_at vs rows le are = rw item_list-view (omega (arith, length-map vs view), are)

fault_at : (vs : List Value) → length vs ≤ 1000 → (f : TableFault) → IsEntryFault (map view vs) f
    → IsFaultAt (Some (array (items_view vs))) f
fault_at vs le faults.NotToml h = h
fault_at vs le faults.UnknownKey h = h
fault_at vs le (faults.BadRow n) h = rw item_list-view (inr (omega (arith, length-map vs view), h))
fault_at vs le (faults.TwoRows n) h = rw item_list-view (omega (arith, length-map vs view), h)
fault_at vs le faults.Memory h = h

if_err : {X : Type 0} (r : Result X TableFault) (P Q : TableFault → Type 0) → ((f : TableFault) → P f → Q f)
    → IfErr r P → IfErr r Q
if_err (Ok x) P Q step h = h
if_err (Err f) P Q step h = step f h

if_ok : {X : Type 0} (r : Result X TableFault) (P Q : X → Type 0) → ((x : X) → P x → Q x) → IfOk r P
    → IfOk r Q
if_ok (Ok x) P Q step h = step x h
if_ok (Err f) P Q step h = h

pub faults_at : {X : Type 0} (vs : List Value) (r : Result X TableFault) → length vs ≤ 1000
    → IfErr r (λ f. IsEntryFault (map view vs) f) → IfErr r (λ f. IsFaultAt (Some (array (items_view vs))) f)
faults_at vs r le h = if_err r _ _ (fault_at vs le) h

pub tables_at : {X : Type 0} (items : X → List OrderRow) (vs : List Value) (r : Result X TableFault)
    → length vs ≤ 1000 → IfOk r (λ x. AreRows (map view vs) (items x))
    → IfOk r (λ x. IsTableAt (Some (array (items_view vs))) (items x))
tables_at items vs r le h = if_ok r _ _ (λ x. table_at vs (items x) le) h
