-- A text denotes one order table at most.
use Rattle.std.proofs.Common.{◌≡◌, ◌≢◌, ℕ, ◌<◌, List, [], ◌∷◌, ◌++◌, length, get_or, map, Option, Some, None, true, false, refl, ap, ◌∙◌, sym, subst, arith, inl, inr, length-append}
use Rattle.std.proofs.lemmas.List.{get_or_append_left}
use Rattle.std.proofs.Math.Seq.{get_or-append_seam}
use Rattle.std.specs.Prelude.{codes}
use Rattle.toml.specs.Data.{Data, array, Members, get_member}
use Rattle.fints_syntax_texts.specs.Document.{document, item_list, only_keys}
use Rattle.fints_rules_permissions.specs.declared.orders.OrderRow.{OrderRow}
use Rattle.fints_rules_permissions.specs.declared.orders.TableFault.{TableFault}
use Rattle.fints_rules_permissions.specs.declared.orders.TableFault.TheVariants.{NotToml, UnknownKey, BadRow, TwoRows, Memory}
use Rattle.fints_rules_permissions.specs.Orders.{row_of, IsSameOrder, AreRows, IsFirstBad, IsNoRow, IsSecondRow, IsTableAt, IsBadRowAt, IsTwoRowsAt, HasOrders, HasUnknownKey, DenotesTable, IsTableFault, table_keys}

same_some : {A : Type 0} (x y : A) → Some x ≡ Some y → x ≡ y
same_some x y e = cc

-- ---- the rows of entries

rows_one : (a b : List OrderRow) → map Some a ≡ map Some b → a ≡ b
rows_one [] [] e = refl
rows_one [] (y ∷ b) e = absurd cc
rows_one (x ∷ a) [] e = absurd cc
rows_one (x ∷ a) (y ∷ b) e =
    let one : x ≡ y = cc in
    let tail : map Some a ≡ map Some b = cc in
    let rest = rows_one a b tail in
    λ i. one i ∷ rest i

are_one : (entries : List Data) (a b : List OrderRow) → AreRows entries a → AreRows entries b → a ≡ b
are_one entries a b h g = rows_one a b (sym h.each ∙ g.each)

-- an entry after good rows, and the row that it is
pub record Next (a b : List OrderRow) (entry : Data) : Type 0 where
  pub row : OrderRow
  pub more : List OrderRow
  pub together : b ≡ a ++ row ∷ more
  pub is : row_of entry ≡ Some row

next_row : (es : List Data) (entry : Data) (fs : List Data) (a b : List OrderRow) → map row_of es ≡ map Some a
    → map row_of (es ++ entry ∷ fs) ≡ map Some b → Next a b entry
next_row [] entry fs [] [] e d = absurd cc
next_row [] entry fs [] (y ∷ b) e d = let is : row_of entry ≡ Some y = cc in record { row = y; more = b; together = refl; is = is }
next_row [] entry fs (x ∷ a) b e d = absurd cc
next_row (k ∷ es) entry fs [] b e d = absurd cc
next_row (k ∷ es) entry fs (x ∷ a) [] e d = absurd cc
next_row (k ∷ es) entry fs (x ∷ a) (y ∷ b) e d =
    let one : x ≡ y = cc in
    let first : map row_of es ≡ map Some a = cc in
    let rest : map row_of (es ++ entry ∷ fs) ≡ map Some b = cc in
    let n = next_row es entry fs a b first rest in
    let together = n.together in
    record { row = n.row; more = n.more; together = λ i. sym one i ∷ together i; is = n.is }

-- no entry of a table is bad
abbrev IsOut : (List OrderRow → Data → Type 0) → Type 0
IsOut Bad = (es : List Data) (entry : Data) (fs : List Data) (a b : List OrderRow) → AreRows es a → AreRows (es ++ entry ∷ fs) b → Bad a entry → ⊥

no_row_out : IsOut IsNoRow
no_row_out es entry fs a b h g bad =
    let n = next_row es entry fs a b h.each g.each in
    let e : None ≡ Some n.row = sym bad ∙ n.is in
    cc

second_row_out : IsOut IsSecondRow
second_row_out es entry fs a b h g (row, is, (k, x, lt, at, same)) =
    let n = next_row es entry fs a b h.each g.each in
    let one : row ≡ n.row = same_some row n.row (sym is ∙ n.is) in
    let far : length a < length b = omega (arith, ap length n.together, length-append a (n.row ∷ n.more)) in
    let left : get_or b k x ≡ x = ap (λ (xs : List OrderRow). get_or xs k x) n.together ∙ get_or_append_left a (n.row ∷ n.more) x k lt ∙ at in
    let right : get_or b (length a) x ≡ row = ap (λ (xs : List OrderRow). get_or xs (length a) x) n.together ∙ get_or-append_seam a n.row n.more x ∙ sym one in
    let apart : IsSameOrder x row → ⊥ =
    subst (λ (z : OrderRow). IsSameOrder x z → ⊥) right
    (subst (λ (z : OrderRow). IsSameOrder z (get_or b (length a) x) → ⊥) left
    (g.distinct k (length a) x lt far)) in
    apart (sym same.0, sym same.1)

-- ---- the first bad entry

-- two places in a list: the same, or one before the other
data Order (bs cs : List Data) (a c : Data) : Type 0 where
  equal : bs ≡ cs → a ≡ c → Order bs cs a c
  before : (more : List Data) → cs ≡ bs ++ a ∷ more → Order bs cs a c
  after : (more : List Data) → bs ≡ cs ++ c ∷ more → Order bs cs a c

order_of : (bs cs : List Data) (a c : Data) (x y : List Data) → bs ++ a ∷ x ≡ cs ++ c ∷ y → Order bs cs a c
order_of [] [] a c x y e = let one : a ≡ c = cc in equal refl one
order_of [] (d ∷ cs) a c x y e = let one : d ≡ a = cc in before cs (ap (λ (z : Data). z ∷ cs) one)
order_of (d ∷ bs) [] a c x y e = let one : d ≡ c = cc in after bs (ap (λ (z : Data). z ∷ bs) one)
order_of (d ∷ bs) (f ∷ cs) a c x y e =
    let one : d ≡ f = cc in
    let tail : bs ++ a ∷ x ≡ cs ++ c ∷ y = cc in
    elim (order_of bs cs a c x y tail) [
      | equal h g ↦ equal (λ i. one i ∷ h i) g
      | before more h ↦ before more (λ i. sym one i ∷ h i)
      | after more h ↦ after more (λ i. one i ∷ h i)
    ]

-- both are of one entry, after the same rows
pub record Agree (Bad Worse : List OrderRow → Data → Type 0) (n m : ℕ) : Type 0 where
  pub number : n ≡ m
  pub rows : List OrderRow
  pub entry : Data
  pub bad : Bad rows entry
  pub worse : Worse rows entry

first_one : (Bad Worse : List OrderRow → Data → Type 0) (entries : List Data) (n m : ℕ) → IsOut Bad
    → IsOut Worse → IsFirstBad entries n Bad → IsFirstBad entries m Worse → Agree Bad Worse n m
first_one Bad Worse entries n m out never h g = elim (order_of h.earlier g.earlier h.entry g.entry h.later g.later (sym h.entries_are ∙ g.entries_are)) [
  | equal p q ↦
      let rows : h.rows ≡ g.rows = are_one g.earlier h.rows g.rows (subst (λ (es : List Data). AreRows es h.rows) p h.rows_are) g.rows_are in
      record {
        number = omega (arith, h.number, g.number, ap length p);
        rows = g.rows;
        entry = g.entry;
        bad = subst (λ (d : Data). Bad g.rows d) q (subst (λ (rs : List OrderRow). Bad rs h.entry) rows h.bad);
        worse = g.bad;
      }
  | before more p ↦ absurd (out h.earlier h.entry more h.rows g.rows h.rows_are (subst (λ (es : List Data). AreRows es g.rows) p g.rows_are) h.bad)
  | after more p ↦ absurd (never g.earlier g.entry more g.rows h.rows g.rows_are (subst (λ (es : List Data). AreRows es h.rows) p h.rows_are) g.bad)
]

no_first : (Bad : List OrderRow → Data → Type 0) (entries : List Data) (n : ℕ) (rows : List OrderRow)
    → IsOut Bad → AreRows entries rows → IsFirstBad entries n Bad → ⊥
no_first Bad entries n rows out are h =
    out h.earlier h.entry h.later h.rows rows h.rows_are
    (subst (λ (es : List Data). AreRows es rows) h.entries_are are) h.bad

-- ---- the value at `order`

table_one : (found : Option Data) (a b : List OrderRow) → IsTableAt found a → IsTableAt found b → a ≡ b
table_one None a b h g = h ∙ sym g
table_one (Some (array ds)) a b h g = are_one (item_list ds) a b h.1 g.1
table_one (Some d) a b h g = absurd h

bad_one : (found : Option Data) (n m : ℕ) → IsBadRowAt found n → IsBadRowAt found m → n ≡ m
bad_one None n m h g = absurd h
bad_one (Some (array ds)) n m (inl h) (inl g) = h.0 ∙ sym g.0
bad_one (Some (array ds)) n m (inl h) (inr g) = absurd (omega (arith, h.1, g.0))
bad_one (Some (array ds)) n m (inr h) (inl g) = absurd (omega (arith, h.0, g.1))
bad_one (Some (array ds)) n m (inr h) (inr g) = (first_one IsNoRow IsNoRow (item_list ds) n m no_row_out no_row_out h.1 g.1).number
bad_one (Some d) n m h g = h ∙ sym g

two_one : (found : Option Data) (n m : ℕ) → IsTwoRowsAt found n → IsTwoRowsAt found m → n ≡ m
two_one None n m h g = absurd h
two_one (Some (array ds)) n m h g = (first_one IsSecondRow IsSecondRow (item_list ds) n m second_row_out second_row_out h.1 g.1).number
two_one (Some d) n m h g = absurd h

no_both : (rows : List OrderRow) (entry : Data) → IsNoRow rows entry → IsSecondRow rows entry → ⊥
no_both rows entry h g = let e : None ≡ Some g.0 = sym h ∙ g.1 in cc

bad_or_two : (found : Option Data) (n m : ℕ) → IsBadRowAt found n → IsTwoRowsAt found m → ⊥
bad_or_two None n m h g = h
bad_or_two (Some (array ds)) n m (inl h) g = omega (arith, h.1, g.0)
bad_or_two (Some (array ds)) n m (inr h) g =
    let r = first_one IsNoRow IsSecondRow (item_list ds) n m no_row_out second_row_out h.1 g.1 in no_both
    r.rows r.entry r.bad r.worse
bad_or_two (Some d) n m h g = g

no_bad : (found : Option Data) (rows : List OrderRow) (n : ℕ) → IsTableAt found rows → IsBadRowAt found n → ⊥
no_bad None rows n h g = g
no_bad (Some (array ds)) rows n h (inl g) = omega (arith, h.0, g.1)
no_bad (Some (array ds)) rows n h (inr g) = no_first IsNoRow (item_list ds) n rows no_row_out h.1 g.1
no_bad (Some d) rows n h g = h

no_two : (found : Option Data) (rows : List OrderRow) (n : ℕ) → IsTableAt found rows → IsTwoRowsAt found n → ⊥
no_two None rows n h g = g
no_two (Some (array ds)) rows n h g = no_first IsSecondRow (item_list ds) n rows second_row_out h.1 g.1
no_two (Some d) rows n h g = h

-- ---- the text

-- a text has one value at `order`
pub record Both (P Q : Option Data → Type 0) : Type 0 where
  pub found : Option Data
  pub one : P found
  pub other : Q found

both : (text : List ℕ) (P Q : Option Data → Type 0) → HasOrders text P → HasOrders text Q → Both P Q
both text P Q h g =
    let same : h.members ≡ g.members = same_some h.members g.members (sym h.toml ∙ g.toml) in
    record { found = get_member (codes "order") g.members; one = subst (λ (ms : Members). P (get_member (codes "order") ms)) same h.orders; other = g.orders }

no_orders : (text : List ℕ) (P : Option Data → Type 0) → HasOrders text P → document text ≡ None → ⊥
no_orders text P h e = let d : None ≡ Some h.members = sym e ∙ h.toml in cc

not_toml : (text : List ℕ) → HasUnknownKey text → document text ≡ None → ⊥
not_toml text h e = let d : None ≡ Some h.members = sym e ∙ h.toml in cc

known : (text : List ℕ) (P : Option Data → Type 0) → HasOrders text P → HasUnknownKey text → ⊥
known text P h g =
    let same : h.members ≡ g.members = same_some h.members g.members (sym h.toml ∙ g.toml) in
    let e : true ≡ false = sym h.keys ∙ ap (only_keys table_keys) same ∙ g.keys in
    cc

-- a text denotes one table at most
pub one_table : (text : List ℕ) (a b : List OrderRow) → DenotesTable text a → DenotesTable text b → a ≡ b
one_table text a b h g = let r = both text (λ found. IsTableAt found a) (λ found. IsTableAt found b) h g in table_one r.found a b r.one r.other

-- it has one first refusal at most
pub one_table_fault : (text : List ℕ) (f g : TableFault) → IsTableFault text f → IsTableFault text g
    → f ≢ Memory → g ≢ Memory → f ≡ g
one_table_fault text Memory g h k n m = absurd (n refl)
one_table_fault text f Memory h k n m = absurd (m refl)
one_table_fault text NotToml NotToml h k n m = refl
one_table_fault text NotToml UnknownKey h k n m = absurd (not_toml text k h)
one_table_fault text NotToml (BadRow b) h k n m = absurd (no_orders text (λ found. IsBadRowAt found b) k h)
one_table_fault text NotToml (TwoRows b) h k n m = absurd (no_orders text (λ found. IsTwoRowsAt found b) k h)
one_table_fault text UnknownKey NotToml h k n m = absurd (not_toml text h k)
one_table_fault text UnknownKey UnknownKey h k n m = refl
one_table_fault text UnknownKey (BadRow b) h k n m = absurd (known text (λ found. IsBadRowAt found b) k h)
one_table_fault text UnknownKey (TwoRows b) h k n m = absurd (known text (λ found. IsTwoRowsAt found b) k h)
one_table_fault text (BadRow a) NotToml h k n m = absurd (no_orders text (λ found. IsBadRowAt found a) h k)
one_table_fault text (BadRow a) UnknownKey h k n m = absurd (known text (λ found. IsBadRowAt found a) h k)
one_table_fault text (BadRow a) (BadRow b) h k n m =
    let r = both text (λ found. IsBadRowAt found a) (λ found. IsBadRowAt found b) h k in ap BadRow
    (bad_one r.found a b r.one r.other)
one_table_fault text (BadRow a) (TwoRows b) h k n m =
    let r = both text (λ found. IsBadRowAt found a) (λ found. IsTwoRowsAt found b) h k in absurd
    (bad_or_two r.found a b r.one r.other)
one_table_fault text (TwoRows a) NotToml h k n m = absurd (no_orders text (λ found. IsTwoRowsAt found a) h k)
one_table_fault text (TwoRows a) UnknownKey h k n m = absurd (known text (λ found. IsTwoRowsAt found a) h k)
one_table_fault text (TwoRows a) (BadRow b) h k n m =
    let r = both text (λ found. IsBadRowAt found b) (λ found. IsTwoRowsAt found a) k h in absurd
    (bad_or_two r.found b a r.one r.other)
one_table_fault text (TwoRows a) (TwoRows b) h k n m =
    let r = both text (λ found. IsTwoRowsAt found a) (λ found. IsTwoRowsAt found b) h k in ap TwoRows
    (two_one r.found a b r.one r.other)

-- it never has both
pub no_table_at_fault : (text : List ℕ) (rows : List OrderRow) (f : TableFault) → DenotesTable text rows
    → IsTableFault text f → f ≢ Memory → ⊥
no_table_at_fault text rows NotToml h k n = no_orders text (λ found. IsTableAt found rows) h k
no_table_at_fault text rows UnknownKey h k n = known text (λ found. IsTableAt found rows) h k
no_table_at_fault text rows (BadRow a) h k n =
    let r = both text (λ found. IsTableAt found rows) (λ found. IsBadRowAt found a) h k in no_bad r.found rows
    a r.one r.other
no_table_at_fault text rows (TwoRows a) h k n =
    let r = both text (λ found. IsTableAt found rows) (λ found. IsTwoRowsAt found a) h k in no_two r.found
    rows a r.one r.other
no_table_at_fault text rows Memory h k n = n refl
