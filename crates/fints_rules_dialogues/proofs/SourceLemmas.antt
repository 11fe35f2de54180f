-- Maps from parties to what was said nearest.
use Rattle.std.proofs.Common.{◌≡◌, ◌∙◌, ap, sym, refl, ℕ, ◌&&◌, Bool, true, false, List, [], ◌∷◌, ◌++◌, length, suc, arith, map, subst, append_assoc, BTreeMap, if◌then◌else◌, cond, Option, Some, None, Bor}
use Rattle.std.specs.Prelude.{option_copied}
use Rattle.std.specs.List.{AllByRecursion, AllZip}
use Rattle.std.specs.Option.{option_and_then, option_map, unwrap_or}
use Rattle.std.specs.Cmp.Lexicographic.{slice_cmp}
use Rattle.std.specs.Ordering.{is_eq, nat_cmp, ordering_then}
use Rattle.std.specs.Str.{bytes_eq}
use Rattle.std.specs.declared.cmp.Ordering.{Ordering}
use Rattle.std.specs.declared.cmp.Ordering.TheVariants.{Less, Equal, Greater}
use Rattle.std.proofs.lemmas.List.{length-map, map-append}
use Rattle.std.proofs.lemmas.Map.Text.{is_eq-slice_cmp}
use Rattle.fints_params.specs.Parameters.{BankRows, UserRows, joined, unknown_user}
use Rattle.fints_rules_permissions.specs.Permits.{BankGranted, Granted, granted}
use Rattle.fints_rules_permissions.specs.declared.orders.OrderRow.{OrderRow}
use Rattle.fints_rules_dialogues.specs.Nearest.{nearest}
use Rattle.fints_rules_dialogues.specs.OwnParams.{AreHeard, HeardRows, LacksBank, bank_for, granted_after, granted_each, granted_for, says_bank, says_user, user_for}
use Rattle.fints_rules_dialogues.specs.Sources.{HoldsNearest, IsAtPlace, IsGranting, IsKeyOf, bank_of, got, heard_in, key_cmp, same, tells, user_of}
use Rattle.fints_rules_dialogues.specs.declared.parties.Party.{Party}
use Rattle.fints_rules_dialogues.specs.declared.sources.Granting.{Granting}
use Rattle.fints_rules_dialogues.specs.declared.sources.Key.{Key}
use Rattle.fints_rules_dialogues.specs.declared.sources.Side.{Side}
use Rattle.fints_rules_dialogues.specs.declared.sources.Side.TheVariants.{Bank, User}
use Rattle.fints_rules_dialogues.specs.declared.reading.Exchange.{Exchange}
use Rattle.fints_rules_dialogues.proofs.OwnLemmas.{Tells}
use Rattle.fints_rules_dialogues.proofs.NearestLemmas.{HoldsOf, nearest_holds, nearest_of_map, nearest_step}

eq_then : (a b : Ordering) → is_eq (ordering_then a b) ≡ (is_eq a && is_eq b)
eq_then Less b = refl
eq_then Equal b = refl
eq_then Greater b = refl

-- the items of keys are compared one by one
abbrev eq_items : List ℕ → List ℕ → List ℕ → List ℕ → List ℕ → List ℕ → Bool
eq_items a b c x y z = bytes_eq a x && (bytes_eq b y && bytes_eq c z)

eq_keys : (k q : Key)
    → is_eq (key_cmp k q)
    ≡ eq_items k.country.now k.code.now k.customer.now q.country.now q.code.now q.customer.now
eq_keys k q =
    let first = slice_cmp nat_cmp k.country.now q.country.now in
    let second = slice_cmp nat_cmp k.code.now q.code.now in
    let third = slice_cmp nat_cmp k.customer.now q.customer.now in
    eq_then first (ordering_then second third)
    ∙ ap (λ b. is_eq first && b) (eq_then second third)
    ∙ ap (λ b. b && (is_eq second && is_eq third)) (is_eq-slice_cmp k.country.now q.country.now)
    ∙ ap (λ b. bytes_eq k.country.now q.country.now && (b && is_eq third)) (is_eq-slice_cmp k.code.now q.code.now)
    ∙ ap (λ b. bytes_eq k.country.now q.country.now && (bytes_eq k.code.now q.code.now && b))
    (is_eq-slice_cmp k.customer.now q.customer.now)

and_true : (a b : Bool) → (a && (b && true)) ≡ (a && b)
and_true true true = refl
and_true true false = refl
and_true false b = refl

and_three : (a b c : Bool) → (a && (b && c)) ≡ ((a && b) && c)
and_three true b c = refl
and_three false b c = refl

-- keys are equal where their parties are the same
pub key_same : (side : Side) (a b : Party) (k q : Key) → IsKeyOf side a k → IsKeyOf side b q
    → is_eq (key_cmp k q) ≡ same side a b
key_same Bank a b k q (p, r, s) (t, u, v) =
    eq_keys k q ∙ rw (p, r, s, t, u, v) (and_true (bytes_eq a.country b.country) (bytes_eq a.code b.code))
key_same User a b k q (p, r, s) (t, u, v) =
    eq_keys k q
    ∙ rw (p, r, s, t, u, v)
    (and_three (bytes_eq a.country b.country) (bytes_eq a.code b.code) (bytes_eq a.customer b.customer))

-- what a map has where one was inserted
pub noted : (same told : Bool) (g : Bor Granting) (o : Option (Bor Granting)) → told ≡ true
    → option_map (λ x. x.now) (cond same (Some g) o)
    ≡ (if (same && told) then Some g.now else option_map (λ x. x.now) o)
noted true true g o e = refl
noted false true g o e = refl
noted same false g o e = absurd (let k : false ≡ true = e in cc)

-- ---- what is permitted at a place

abbrev grant : List OrderRow → BankRows → BankGranted
grant orders rows = record { rows = rows; orders = orders }

bank_held : (orders : List OrderRow) (o : Option Granting) → HoldsOf (IsGranting orders) o
    → option_and_then bank_of o
    ≡ option_map (grant orders) (option_and_then (λ h. h.bank) (option_map (λ g. g.heard.now) o))
bank_held orders None h = refl
bank_held orders (Some g) h = h.bank

user_held : (orders : List OrderRow) (o : Option Granting) → HoldsOf (IsGranting orders) o
    → option_and_then user_of o ≡ option_and_then (λ h. h.user) (option_map (λ g. g.heard.now) o)
user_held orders None h = refl
user_held orders (Some g) h = h.user

-- the bank's part, by the rows that are sent
pub bank_found : (orders : List OrderRow) (before : List Granting) (g : Granting) (after : List Granting)
    (party : Party) → party ≡ g.heard.now.party → AllByRecursion (IsGranting orders) before → AllByRecursion (IsGranting orders) (g ∷ after)
    → option_and_then bank_of (nearest (λ x. tells Bank party x.heard.now) before (g ∷ after))
    ≡ option_map (grant orders) (bank_for (heard_in before) g.heard.now (heard_in after))
bank_found orders before g after party is h k =
    let t : HeardRows → Bool = says_bank g.heard.now.party in
    let found = nearest (λ (x : Granting). t x.heard.now) before (g ∷ after) in
    ap (λ p. option_and_then bank_of (nearest (λ (x : Granting). tells Bank p x.heard.now) before (g ∷ after))) is
    ∙ bank_held orders found (nearest_holds (IsGranting orders) (λ x. t x.heard.now) before (g ∷ after) h k)
    ∙ ap (λ o. option_map (grant orders) (option_and_then (λ (x : HeardRows). x.bank) o))
    (sym (nearest_of_map t (λ (x : Granting). x.heard.now) before (g ∷ after)))

pub user_found : (orders : List OrderRow) (before : List Granting) (g : Granting) (after : List Granting)
    (party : Party) (unknown : UserRows) → party ≡ g.heard.now.party → unknown ≡ unknown_user
    → AllByRecursion (IsGranting orders) before → AllByRecursion (IsGranting orders) (g ∷ after)
    → unwrap_or
    (option_and_then user_of (nearest (λ x. tells User party x.heard.now) before (g ∷ after)))
    unknown
    ≡ user_for (heard_in before) g.heard.now (heard_in after)
user_found orders before g after party unknown is none h k =
    let t : HeardRows → Bool = says_user g.heard.now.party in
    let found = nearest (λ (x : Granting). t x.heard.now) before (g ∷ after) in
    ap (λ (u : UserRows).
    unwrap_or (option_and_then user_of (nearest (λ (x : Granting). tells User party x.heard.now) before (g ∷ after)))
    u)
    none
    ∙ ap (λ o. unwrap_or o unknown_user)
    (ap (λ p. option_and_then user_of (nearest (λ (x : Granting). tells User p x.heard.now) before (g ∷ after))) is
    ∙ user_held orders found (nearest_holds (IsGranting orders) (λ x. t x.heard.now) before (g ∷ after) h k)
    ∙ ap (λ o. option_and_then (λ (x : HeardRows). x.user) o)
    (sym (nearest_of_map t (λ (x : Granting). x.heard.now) before (g ∷ after))))

-- no bank's part is found where no rows are sent
pub none_told : (orders : List OrderRow) (o : Option BankRows) → None ≡ option_map (grant orders) o → o ≡ None
none_told orders None e = refl
none_told orders (Some x) e = absurd (let k : None ≡ Some (grant orders x) = e in cc)

pub both_found : (orders : List OrderRow) (o : Option BankRows) (bank : BankGranted) (user found : UserRows)
    → Some bank ≡ option_map (grant orders) o → user ≡ found
    → Some (granted bank user)
    ≡ option_map (λ rows. record { rows = joined rows found; orders = orders }) o
both_found orders None bank user found e u = absurd (let k : Some bank ≡ None = e in cc)
both_found orders (Some x) bank user found e u =
    let same : bank ≡ grant orders x = cc in
    ap (λ b. Some (granted b user)) same ∙ ap (λ w. Some (granted (grant orders x) w)) u

pub user_or : (o : Option (Bor UserRows)) (unknown : Bor UserRows)
    → (unwrap_or o unknown).now ≡ unwrap_or (option_copied o) unknown.now
user_or None unknown = refl
user_or (Some u) unknown = refl

-- ---- place by place

-- those in front are granted, and the maps have what is nearest at the place after them
pub record AreGrantedSoFar (orders : List OrderRow) (all before after : List Granting)
    (banks users : BTreeMap Key (Bor Granting)) (bases : List Granted) : Type 0 where
  pub banks_are : HoldsNearest Bank before after banks
  pub users_are : HoldsNearest User before after users
  pub granted_are :
      map Some bases ++ granted_after orders (heard_in before) (heard_in after)
      ≡ granted_each orders (heard_in all)

-- a map after one more is noted in it
abbrev pub IsNoted : Side → Granting → BTreeMap Key (Bor Granting) → BTreeMap Key (Bor Granting) → Type 0
IsNoted side g old new =
    (party : Party) (key : Key) → IsKeyOf side party key
    → got new key ≡ (if tells side party g.heard.now then Some g else got old key)

nearest_noted : (side : Side) (before : List Granting) (g : Granting) (after : List Granting)
    (old new : BTreeMap Key (Bor Granting)) → HoldsNearest side before (g ∷ after) old → IsNoted side g old new
    → HoldsNearest side (before ++ g ∷ []) after new
nearest_noted side before g after old new h n = λ party key is.
    let t : Granting → Bool = λ x. tells side party x.heard.now in
    n party key is
    ∙ ap (λ (o : Option Granting). if t g then Some g else o) (h party key is)
    ∙ sym (nearest_step t before g after)

pub one_granted : (orders : List OrderRow) (all before : List Granting) (g : Granting) (after : List Granting)
    (banks users banks' users' : BTreeMap Key (Bor Granting)) (bases : List Granted) (basis : Granted)
    → AreGrantedSoFar orders all before (g ∷ after) banks users bases
    → Some basis ≡ granted_for orders (heard_in before) g.heard.now (heard_in after)
    → IsNoted Bank g banks banks' → IsNoted User g users users'
    → AreGrantedSoFar orders all (before ++ g ∷ []) after banks' users' (bases ++ basis ∷ [])
one_granted orders all before g after banks users banks' users' bases basis h is bank user =
    let rest : List HeardRows → List (Option Granted) = λ front. granted_after orders front (heard_in after) in
    let front = heard_in before ++ g.heard.now ∷ [] in
    record {
      banks_are = nearest_noted Bank before g after banks banks' h.banks_are bank;
      users_are = nearest_noted User before g after users users' h.users_are user;
      granted_are =
          ap (λ (xs : List (Option Granted)). xs ++ rest (heard_in (before ++ g ∷ []))) (map-append Some bases (basis ∷ []))
          ∙ append_assoc (map Some bases) (Some basis ∷ []) (rest (heard_in (before ++ g ∷ [])))
          ∙ ap (λ xs. map Some bases ++ Some basis ∷ rest xs) (map-append (λ (x : Granting). x.heard.now) before (g ∷ []))
          ∙ ap (λ o. map Some bases ++ o ∷ rest front) is
          ∙ h.granted_are;
    }

no_more : (xs : List (Option Granted)) → xs ++ [] ≡ xs
no_more [] = refl
no_more (x ∷ xs) = ap (λ ys. x ∷ ys) (no_more xs)

pub all_granted : (orders : List OrderRow) (all : List Granting) (banks users : BTreeMap Key (Bor Granting))
    (bases : List Granted) → AreGrantedSoFar orders all all [] banks users bases
    → map Some bases ≡ granted_each orders (heard_in all)
all_granted orders all banks users bases h = sym (no_more (map Some bases)) ∙ h.granted_are

pub all_split : {A : Type 0} (P : A → Type 0) (xs ys : List A) → AllByRecursion P (xs ++ ys)
    → AllByRecursion P xs × AllByRecursion P ys
all_split P [] ys h = (tt, h)
all_split P (x ∷ xs) ys h = let rest = all_split P xs ys h.1 in ((h.0, rest.0), rest.1)

-- each granting is right, so the place of one is
pub at_place : (orders : List OrderRow) (all before : List Granting) (g : Granting) (after : List Granting)
    (banks users : BTreeMap Key (Bor Granting)) (bases : List Granted)
    → all ≡ before ++ g ∷ after → AllByRecursion (IsGranting orders) all
    → AreGrantedSoFar orders all before (g ∷ after) banks users bases
    → IsAtPlace orders before g after banks users
at_place orders all before g after banks users bases split each h =
    let parts = all_split (IsGranting orders) before (g ∷ after) (subst (AllByRecursion (IsGranting orders)) split each) in
    record { banks_are = h.banks_are; users_are = h.users_are; each_before = parts.0; each_after = parts.1 }

pub bank_lacked : (all before : List Granting) (g : Granting) (after : List Granting)
    → all ≡ before ++ g ∷ after → bank_for (heard_in before) g.heard.now (heard_in after) ≡ None
    → LacksBank (heard_in all)
bank_lacked all before g after split none = (
  heard_in before,
  heard_in after,
  g.heard.now,
  ap heard_in split ∙ map-append (λ (x : Granting). x.heard.now) before (g ∷ after),
  none,
)

-- ---- one for each exchange

each_long : (orders : List OrderRow) (before heard : List HeardRows)
    → length (granted_after orders before heard) ≡ length heard
each_long orders before [] = refl
each_long orders before (h ∷ hs) = ap suc (each_long orders (before ++ h ∷ []) hs)

told_long : (es : List Exchange) (hs : List HeardRows) → AllZip Tells es hs → length es ≡ length hs
told_long [] [] all = refl
told_long [] (y ∷ ys) all = absurd all
told_long (x ∷ xs) [] all = absurd all
told_long (x ∷ xs) (y ∷ ys) (first, all) = ap suc (told_long xs ys all)

pub as_many : (orders : List OrderRow) (exchanges : List Exchange) (heard : List HeardRows) (bases : List Granted)
    → AreHeard exchanges heard → map Some bases ≡ granted_each orders heard
    → length bases ≡ length exchanges
as_many orders exchanges heard bases are granted =
    let told = told_long exchanges heard are.told in
    let long = each_long orders [] heard in
    let mapped = length-map bases Some in
    let same = ap length granted in
    omega (arith, told, long, mapped, same)
