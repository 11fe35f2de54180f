-- The tokens of objects and of lists.
use Rattle.std.proofs.Common.{◌≡◌, ℕ, List, [], ◌∷◌, ◌++◌, refl, ap, ◌∙◌, append_assoc, sym}
use Rattle.std.proofs.lemmas.List.{append-nil}
use Rattle.std.proofs.lemmas.List.Concat.{flat_map-append}
use Rattle.json.specs.Json.{Json, array}
use Rattle.json.specs.Token.{Token, begin_array, begin_object, end_array, end_object, key}
use Rattle.json.specs.Tree.{items_tokens, json_tokens, members_tokens}
use Rattle.fints_cli_json.specs.Objects.{Member, items_of, list, members_of, object_of}
use Rattle.fints_cli_json.specs.Tokens.{all_members, all_values, member_tokens}

members_each : (members : List Member) → members_tokens (members_of members) ≡ all_members members ++ end_object ∷ []
unfolding member_tokens
members_each [] = refl
members_each ((name, value) ∷ more) =
    ap (λ ts. key name ∷ (json_tokens value ++ ts)) (members_each more)
    ∙ ap (λ ts. key name ∷ ts) (sym (append_assoc (json_tokens value) (all_members more) (end_object ∷ [])))

items_each : (values : List Json) → items_tokens (items_of values) ≡ all_values values ++ end_array ∷ []
items_each [] = refl
items_each (value ∷ more) =
    ap (λ ts. json_tokens value ++ ts) (items_each more)
    ∙ sym (append_assoc (json_tokens value) (all_values more) (end_array ∷ []))

-- an object between its brackets
object_tokens : (members : List Member)
    → json_tokens (object_of members) ≡ begin_object ∷ (all_members members ++ end_object ∷ [])
object_tokens members = ap (λ ts. begin_object ∷ ts) (members_each members)

array_tokens : (values : List Json)
    → json_tokens (array (items_of values)) ≡ begin_array ∷ (all_values values ++ end_array ∷ [])
array_tokens values = ap (λ ts. begin_array ∷ ts) (items_each values)

-- ---- members one after another

pub members_append : (a b : List Member) → all_members (a ++ b) ≡ all_members a ++ all_members b
members_append a b = flat_map-append member_tokens a b

pub then_members : (old mid new : List Token) (a b : List Member) → mid ≡ old ++ all_members a
    → new ≡ mid ++ all_members b → new ≡ old ++ all_members (a ++ b)
then_members old mid new a b first second =
    second ∙ ap (λ ts. ts ++ all_members b) first ∙ append_assoc old (all_members a) (all_members b)
    ∙ ap (λ ts. old ++ ts) (sym (members_append a b))

pub no_members : (old : List Token) → old ≡ old ++ all_members []
no_members old = sym (append-nil old)

pub one_member : (old new : List Token) (a : Member) → new ≡ old ++ member_tokens a
    → new ≡ old ++ all_members (a ∷ [])
one_member old new a first = first ∙ ap (λ ts. old ++ ts) (sym (append-nil (member_tokens a)))

pub two_members : (old mid new : List Token) (a b : Member) → mid ≡ old ++ member_tokens a
    → new ≡ mid ++ member_tokens b → new ≡ old ++ all_members (a ∷ b ∷ [])
two_members old mid new a b first second =
    then_members old mid new (a ∷ []) (b ∷ []) (one_member old mid a first) (one_member mid new b second)

pub three_members : (old l m new : List Token) (a b c : Member) → l ≡ old ++ member_tokens a
    → m ≡ l ++ member_tokens b → new ≡ m ++ member_tokens c → new ≡ old ++ all_members (a ∷ b ∷ c ∷ [])
three_members old l m new a b c first second third =
    then_members old m new (a ∷ b ∷ []) (c ∷ []) (two_members old l m a b first second) (one_member m new c third)

pub four_members : (old l m n new : List Token) (a b c d : Member) → l ≡ old ++ member_tokens a
    → m ≡ l ++ member_tokens b → n ≡ m ++ member_tokens c → new ≡ n ++ member_tokens d
    → new ≡ old ++ all_members (a ∷ b ∷ c ∷ d ∷ [])
four_members old l m n new a b c d first second third fourth =
    then_members old m new (a ∷ b ∷ []) (c ∷ d ∷ []) (two_members old l m a b first second)
    (two_members m n new c d third fourth)

pub then_member : (old mid new : List Token) (a : List Member) (m : Member) → mid ≡ old ++ all_members a
    → new ≡ mid ++ member_tokens m → new ≡ old ++ all_members (a ++ m ∷ [])
then_member old mid new a m first second = then_members old mid new a (m ∷ []) first (one_member mid new m second)

-- ---- between brackets

-- the members of an object
pub in_object : (old begun filled new : List Token) (members : List Member) → begun ≡ old ++ begin_object ∷ []
    → filled ≡ begun ++ all_members members → new ≡ filled ++ end_object ∷ []
    → new ≡ old ++ json_tokens (object_of members)
in_object old begun filled new members first second third =
    third ∙ ap (λ ts. ts ++ end_object ∷ []) (second ∙ ap (λ ts. ts ++ all_members members) first)
    ∙ append_assoc (old ++ begin_object ∷ []) (all_members members) (end_object ∷ [])
    ∙ append_assoc old (begin_object ∷ []) (all_members members ++ end_object ∷ [])
    ∙ ap (λ ts. old ++ ts) (sym (object_tokens members))

-- the values of a list
pub in_array : (old begun filled new : List Token) (values : List Json) → begun ≡ old ++ begin_array ∷ []
    → filled ≡ begun ++ all_values values → new ≡ filled ++ end_array ∷ []
    → new ≡ old ++ json_tokens (array (items_of values))
in_array old begun filled new values first second third =
    third ∙ ap (λ ts. ts ++ end_array ∷ []) (second ∙ ap (λ ts. ts ++ all_values values) first)
    ∙ append_assoc (old ++ begin_array ∷ []) (all_values values) (end_array ∷ [])
    ∙ append_assoc old (begin_array ∷ []) (all_values values ++ end_array ∷ [])
    ∙ ap (λ ts. old ++ ts) (sym (array_tokens values))

-- the values of a list that is a member
pub in_list : (old named begun filled new : List Token) (name : List ℕ) (values : List Json)
    → named ≡ old ++ key name ∷ [] → begun ≡ named ++ begin_array ∷ []
    → filled ≡ begun ++ all_values values → new ≡ filled ++ end_array ∷ []
    → new ≡ old ++ member_tokens (list name values)
unfolding member_tokens
in_list old named begun filled new name values zeroth first second third =
    in_array named begun filled new values first second third
    ∙ ap (λ ts. ts ++ json_tokens (array (items_of values))) zeroth
    ∙ append_assoc old (key name ∷ []) (json_tokens (array (items_of values)))
