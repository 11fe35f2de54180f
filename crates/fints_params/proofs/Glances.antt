-- What a glance at a segment says is all that is read of it.
use Rattle.std.proofs.Common.{◌≡◌, ℕ, ◌≤◌, true, false, List, [], ◌∷◌, ◌++◌, codes, refl, ap, ◌∙◌, sym, subst, arith, inl, inr, Option, Some, None}
use Rattle.std.specs.declared.alloc.Global.{Global}
use Rattle.std.specs.Prelude.{Bool, Vec, ◌||◌, ◌&&◌, not, unwrap_or}
use Rattle.std.specs.List.{filter, filter_map, flat_map, count_by}
use Rattle.std.specs.Option.{is_some, option_map, option_and_then}
use Rattle.std.specs.Str.{bytes_eq}
use Rattle.std.proofs.lemmas.Bool.{cases_Bool, true≢false}
use Rattle.std.proofs.lemmas.List.{append-nil}
use Rattle.std.proofs.lemmas.Slice.Eq.{bytes_eq-Decides}
use Rattle.fints_syntax_segments.specs.Spelling.{Spelled, item_of}
use Rattle.fints_syntax_segments.specs.Segment.{item_value, values_of, head_of}
use Rattle.fints_syntax_segments.specs.Number.{number_of}
use Rattle.fints_syntax_segments.specs.Values.{is_named, value_at}
use Rattle.fints_syntax_segments.specs.declared.item.Head.{Head}
use Rattle.fints_syntax_segments.specs.declared.item.OwnedSegment.{OwnedSegment}
use Rattle.fints_syntax.specs.Places.{place_of}
use Rattle.fints_syntax.specs.Owned.{no_head, segment_of}
use Rattle.fints_params.specs.declared.rows.OrderParam.{OrderParam}
use Rattle.fints_params.specs.declared.gathered.Gathered.{Gathered}
use Rattle.fints_params.specs.Parameters.{skipped_in}
use Rattle.fints_params.specs.Orders.{is_order_identifier, kind_of_orders, order_of, order_in, is_odd_order}
use Rattle.fints_params.specs.Bank.{is_bank}
use Rattle.fints_params.specs.Pins.{is_pins}
use Rattle.fints_params.specs.Tans.{is_tans, tan_in}
use Rattle.fints_params.specs.Accounts.{is_usage, is_account, entry_elements, is_odd_element}
use Rattle.fints_params.specs.Sealed.{is_sealed}
use Rattle.fints_params.specs.Taken.{AddsRows, ParamsSoFar, MOST, capped_sum}
use Rattle.fints_params.specs.Glancing.{is_read_whole, SpellsNumber, IsReadAlone, IsGlanced}
use Rattle.fints_params.proofs.RowsSoFar.{so_far_more}

-- ---- the row of a parameter segment

some_same : {A : Type 0} (x y : A) → Some x ≡ Some y → x ≡ y
some_same x y e = cc

value2 : (es : List (List Spelled)) (s : Spelled) → place_of es 2 1 ≡ Some s
    → value_at (segment_of es) 2 1 ≡ item_value (item_of s)
value2 [] s e = absurd cc
value2 (h ∷ []) s e = absurd cc
value2 (h ∷ [] ∷ r) s e = absurd cc
value2 (h ∷ (x ∷ xs) ∷ r) s e = ap (λ (y : Spelled). item_value (item_of y)) (some_same x s e)

value3 : (es : List (List Spelled)) (s : Spelled) → place_of es 3 1 ≡ Some s
    → value_at (segment_of es) 3 1 ≡ item_value (item_of s)
value3 [] s e = absurd cc
value3 (h ∷ []) s e = absurd cc
value3 (h ∷ g ∷ []) s e = absurd cc
value3 (h ∷ g ∷ [] ∷ r) s e = absurd cc
value3 (h ∷ g ∷ (x ∷ xs) ∷ r) s e = ap (λ (y : Spelled). item_value (item_of y)) (some_same x s e)

both : (f : ℕ → ℕ → OrderParam) (a b : Option ℕ) (n m : ℕ) → a ≡ Some n → b ≡ Some m
    → option_and_then {U = OrderParam} (λ x. option_map (λ y. f x y) b) a ≡ Some (f n m)
both f a b n m p q = rw (p, q) refl

part_of : {A : Type 0} (f : Head → A) (o : Option Head) (x : A) → option_map f o ≡ Some x
    → f (unwrap_or o no_head) ≡ x
part_of f None x e = absurd cc
part_of f (Some h) x e = some_same (f h) x e

with_kind : (s : OwnedSegment) (o : Option (List ℕ)) (k : List ℕ) (row : OrderParam) → o ≡ Some k
    → order_of s k ≡ Some row → option_and_then (λ x. order_of s x) o ≡ Some row
with_kind s o k row p q = rw p q

-- what a view says of its head
pub head_part : {A : Type 0} (f : Head → A) (es : List (List Spelled)) (x : A)
    → option_map f (head_of (values_of es)) ≡ Some x → f (segment_of es).head ≡ x
head_part f es x e = part_of f (head_of (values_of es)) x e

pub order_told : (es : List (List Spelled)) (k : List ℕ) (version n m : ℕ)
    → kind_of_orders (segment_of es).head.id ≡ Some k → (segment_of es).head.version ≡ version
    → SpellsNumber es 2 n → SpellsNumber es 3 m
    → order_in (segment_of es) ≡ Some (record { kind = k; version = version; orders = n; signatures = m })
order_told es k version n m e v two three =
    let s = segment_of es in
    let a : number_of (value_at s 2 1) ≡ Some n = ap number_of (value2 es two.item two.at) ∙ two.number in
    let b : number_of (value_at s 3 1) ≡ Some m = ap number_of (value3 es three.item three.at) ∙ three.number in
    let row : ℕ → ℕ → ℕ → OrderParam = λ w x y. record { kind = k; version = w; orders = x; signatures = y } in
    let own : order_of s k ≡ Some (row version n m) =
    both (row s.head.version) (number_of (value_at s 2 1)) (number_of (value_at s 3 1)) n m a b
    ∙ ap (λ w. Some (row w n m)) v in
    with_kind s (kind_of_orders s.head.id) k (row version n m) e own

-- ---- nothing else is read of it

identified : (id k : List ℕ) → kind_of_orders id ≡ Some k → is_order_identifier id ≡ true
identified id k e =
    elim (cases_Bool (is_order_identifier id)) [
      | inl t ↦ t
      | inr f ↦ let none : kind_of_orders id ≡ None = rw f refl in absurd (let x = sym none ∙ e in cc)
    ]

not_that : (id c : List ℕ) → is_order_identifier id ≡ true
    → is_order_identifier c ≡ false → bytes_eq id c ≡ false
not_that id c h n =
    elim (cases_Bool (bytes_eq id c)) [
      | inl t ↦
          let is : is_order_identifier c ≡ true = subst (λ x. is_order_identifier x ≡ true) ((bytes_eq-Decides id c).0 t) h in
          absurd (true≢false (sym is ∙ n))
      | inr f ↦ f
    ]

unnamed : (s : OwnedSegment) (c : List ℕ) (v : ℕ) → bytes_eq s.head.id c ≡ false → is_named s c v ≡ false
unnamed s c v e = rw e refl

not_whole : (s : OwnedSegment) → is_order_identifier s.head.id ≡ true → is_read_whole s ≡ false
not_whole s id =
    let bank : is_bank s ≡ false = unnamed s (codes "HIBPA") 3 (not_that s.head.id (codes "HIBPA") id refl) in
    let pins : is_pins s ≡ false = unnamed s (codes "HIPINS") 1 (not_that s.head.id (codes "HIPINS") id refl) in
    let usage : is_usage s ≡ false = unnamed s (codes "HIUPA") 4 (not_that s.head.id (codes "HIUPA") id refl) in
    let account : is_account s ≡ false = unnamed s (codes "HIUPD") 6 (not_that s.head.id (codes "HIUPD") id refl) in
    let plain : is_sealed s ≡ false = unnamed s (codes "HNVSD") 1 (not_that s.head.id (codes "HNVSD") id refl) in
    rw (bank, pins, usage, account, plain) refl

no_tans : (s : OwnedSegment) → bytes_eq s.head.id (codes "HITANS") ≡ false → tan_in s ≡ None
no_tans s e =
    let no : is_tans s ≡ false = rw e refl in
    rw no refl

pub order_alone : (s : OwnedSegment) (k : List ℕ) → kind_of_orders s.head.id ≡ Some k
    → bytes_eq s.head.id (codes "HITANS") ≡ false → IsReadAlone s
order_alone s k e other = record { whole = not_whole s (identified s.head.id k e); tans = no_tans s other }

and_false : (b : Bool) → (b && false) ≡ false
and_false true = refl
and_false false = refl

-- ---- what it adds

record Five (s : OwnedSegment) : Type 0 where
  pub bank : is_bank s ≡ false
  pub pins : is_pins s ≡ false
  pub usage : is_usage s ≡ false
  pub account : is_account s ≡ false
  pub plain : is_sealed s ≡ false

none_of : (a b c d e : Bool) → (a || b || c || d || e) ≡ false
    → (a ≡ false) × (b ≡ false) × (c ≡ false) × (d ≡ false) × (e ≡ false)
none_of true b c d e h = absurd cc
none_of false true c d e h = absurd cc
none_of false false true d e h = absurd cc
none_of false false false true e h = absurd cc
none_of false false false false true h = absurd cc
none_of false false false false false h = (refl, refl, refl, refl, refl)

five : (s : OwnedSegment) → is_read_whole s ≡ false → Five s
five s h =
    let n = none_of (is_bank s) (is_pins s) (is_usage s) (is_account s) (is_sealed s) h in
    record { bank = n.0; pins = n.1; usage = n.2; account = n.3; plain = n.4 }

or_false : (b : Bool) → (b || false) ≡ b
or_false true = refl
or_false false = refl

uncounted : (n k : ℕ) → k ≡ 0 → n ≤ MOST → n ≡ capped_sum n k
uncounted n k e le = omega (arith, e, le)

-- the rows, but for orders, are as before
record AddsOrders (s : OwnedSegment) (old new : Gathered) : Type 0 where
  pub bank : new.bank ≡ old.bank
  pub orders : new.orders.items ≡ old.orders.items ++ filter_map order_in (s ∷ [])
  pub pins : new.pins.items ≡ old.pins.items
  pub has_pins : new.has_pins ≡ old.has_pins
  pub tans : new.tans.items ≡ old.tans.items
  pub usages : new.usages.items ≡ old.usages.items
  pub accounts : new.accounts.items ≡ old.accounts.items
  pub skipped : new.skipped ≡ old.skipped

alone_adds : (s : OwnedSegment) (old new : Gathered) → IsReadAlone s → is_odd_order s ≡ false
    → AddsOrders s old new → old.skipped ≤ MOST → AddsRows s old new
alone_adds s old new alone odd a most =
    let f = five s alone.whole in
    let no_bank = f.bank in
    let no_pins = f.pins in
    let no_usage = f.usage in
    let no_account = f.account in
    let no_tans = alone.tans in
    let first : count_by is_odd_order (s ∷ []) ≡ 0 = rw odd refl in
    let second : count_by is_odd_element (flat_map entry_elements (filter is_account (s ∷ []))) ≡ 0 = rw no_account refl in
    let none : skipped_in (s ∷ []) ≡ 0 = omega (arith, first, second) in
    record {
      fine = rw (no_bank, no_usage, no_pins) refl;
      bank = rw (no_bank, a.bank) (sym (append-nil _));
      orders = a.orders;
      pins = rw (no_pins, a.pins) (sym (append-nil _));
      has_pins = a.has_pins ∙ sym (ap (λ (b : Bool). old.has_pins || b) no_pins ∙ or_false old.has_pins);
      tans = rw (no_tans, a.tans) (sym (append-nil _));
      usages = rw (no_usage, a.usages) (sym (append-nil _));
      accounts = rw (no_account, a.accounts) (sym (append-nil _));
      skipped = a.skipped ∙ uncounted old.skipped (skipped_in (s ∷ [])) none most;
    }

order_even : (s : OwnedSegment) (row : OrderParam) → order_in s ≡ Some row → is_odd_order s ≡ false
order_even s row e =
    ap (λ (o : Option OrderParam). is_some (kind_of_orders s.head.id) && not (is_some o)) e
    ∙ and_false (is_some (kind_of_orders s.head.id))

-- ---- the rows so far

glanced : (s : OwnedSegment) (old new : Gathered) → IsReadAlone s
    → is_odd_order s ≡ false → AddsOrders s old new
    → IsGlanced ParamsSoFar old new s true
glanced s old new alone odd a = (
  (five s alone.whole).plain,
  λ seen g.
      let most : old.skipped ≤ MOST = omega (arith, g.rows.skipped) in
      so_far_more s old new (alone_adds s old new alone odd a most) seen g,
)

pub nothing_glanced : (s : OwnedSegment) (old : Gathered) → IsReadAlone s → kind_of_orders s.head.id ≡ None
    → IsGlanced ParamsSoFar old old s true
nothing_glanced s old alone e =
    let odd : is_odd_order s ≡ false = rw e refl in
    let no_row : order_in s ≡ None = rw e refl in
    glanced s old old alone odd (record {
      bank = refl;
      orders = rw no_row (sym (append-nil old.orders.items));
      pins = refl;
      has_pins = refl;
      tans = refl;
      usages = refl;
      accounts = refl;
      skipped = refl;
    })

pub order_glanced : (s : OwnedSegment) (old : Gathered) (orders : Vec OrderParam Global) (row : OrderParam)
    → IsReadAlone s → order_in s ≡ Some row → orders.items ≡ old.orders.items ++ row ∷ []
    → IsGlanced ParamsSoFar old (record old { orders = orders }) s true
order_glanced s old orders row alone e more =
    glanced s old (record old { orders = orders }) alone (order_even s row e) (record {
      bank = refl;
      orders = rw e more;
      pins = refl;
      has_pins = refl;
      tans = refl;
      usages = refl;
      accounts = refl;
      skipped = refl;
    })
