-- Maps from parties to what was said nearest. Only private contracts and the model
-- of `OwnPermissions` use this file.
use Rattle.std.specs.Prelude.{◌≡◌, ◌&&◌, Bool, List, [], ◌∷◌, map, Option}
use Rattle.std.specs.Borrow.{Bor}
use Rattle.std.specs.List.{AllByRecursion}
use Rattle.std.specs.BTreeMap.{BTreeMap, get}
use Rattle.std.specs.Option.{is_some, option_map}
use Rattle.std.specs.Cmp.Lexicographic.{slice_cmp}
use Rattle.std.specs.Ordering.{nat_cmp, ordering_then}
use Rattle.std.specs.declared.cmp.Ordering.{Ordering}
use Rattle.fints_params.specs.Parameters.{UserRows}
use Rattle.fints_rules_permissions.specs.Permits.{BankGranted}
use Rattle.fints_rules_permissions.specs.declared.orders.OrderRow.{OrderRow}
use Rattle.fints_rules_dialogues.specs.Nearest.{nearest}
use Rattle.fints_rules_dialogues.specs.OwnParams.{HeardRows}
use Rattle.fints_rules_dialogues.specs.Parties.{same_bank, same_customer}
use Rattle.fints_rules_dialogues.specs.declared.parties.Party.{Party}
use Rattle.fints_rules_dialogues.specs.declared.sources.Granting.{Granting}
use Rattle.fints_rules_dialogues.specs.declared.sources.Key.{Key}
use Rattle.fints_rules_dialogues.specs.declared.sources.Side.{Side}
use Rattle.fints_rules_dialogues.specs.declared.sources.Side.TheVariants.{Bank, User}

-- whether an answer says something of a side
abbrev pub is_told : Side → HeardRows → Bool
is_told Bank h = is_some h.bank
is_told User h = is_some h.user

-- parties that are the same to a side
abbrev pub same : Side → Party → Party → Bool
same Bank a b = same_bank a b
same User a b = same_customer a b

abbrev pub tells : Side → Party → HeardRows → Bool
tells side party h = same side h.party party && is_told side h

-- the key of a party
abbrev pub IsKeyOf : Side → Party → Key → Type 0
IsKeyOf Bank party key =
    (key.country.now ≡ party.country) × (key.code.now ≡ party.code) × (key.customer.now ≡ [])
IsKeyOf User party key =
    (key.country.now ≡ party.country) × (key.code.now ≡ party.code)
    × (key.customer.now ≡ party.customer)

abbrev pub key_cmp : Key → Key → Ordering
key_cmp a b =
    ordering_then (slice_cmp nat_cmp a.country.now b.country.now)
    (ordering_then (slice_cmp nat_cmp a.code.now b.code.now)
    (slice_cmp nat_cmp a.customer.now b.customer.now))

-- what a granting holds of the bank and of the user
abbrev pub bank_of : Granting → Option BankGranted
bank_of g = option_map (λ b. b.value) g.bank

abbrev pub user_of : Granting → Option UserRows
user_of g = option_map (λ u. u.value) g.user

-- what is permitted by what an exchange's answer says
pub record IsGranting (orders : List OrderRow) (g : Granting) : Type 0 where
  pub bank : bank_of g ≡ option_map (λ rows. record { rows = rows; orders = orders }) g.heard.now.bank
  pub user : user_of g ≡ g.heard.now.user

-- what a map has at a key
abbrev pub got : BTreeMap Key (Bor Granting) → Key → Option Granting
got sources key = option_map (λ g. g.now) (get key_cmp sources key)

-- the map has for each party the nearest that says something of the side: before the place, or else after it
abbrev pub HoldsNearest : Side → List Granting → List Granting → BTreeMap Key (Bor Granting) → Type 0
HoldsNearest side before after sources =
    (party : Party) (key : Key) → IsKeyOf side party key
    → got sources key ≡ nearest (λ g. tells side party g.heard.now) before after

-- what they are of, and what is permitted for the message of each by them and an order table
pub record OwnGranted : Type 0 where
  pub heard : List HeardRows
  pub orders : List OrderRow

abbrev pub heard_in : List Granting → List HeardRows
heard_in all = map (λ g. g.heard.now) all

-- the maps have what is nearest at the place of the exchange, and each granting is right
pub record IsAtPlace (orders : List OrderRow) (before : List Granting) (g : Granting) (after : List Granting)
    (banks users : BTreeMap Key (Bor Granting)) : Type 0 where
  pub banks_are : HoldsNearest Bank before (g ∷ after) banks
  pub users_are : HoldsNearest User before (g ∷ after) users
  pub each_before : AllByRecursion (IsGranting orders) before
  pub each_after : AllByRecursion (IsGranting orders) (g ∷ after)
