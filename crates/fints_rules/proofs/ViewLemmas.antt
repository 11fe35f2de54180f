-- Segments in place, and by their values.
use Rattle.std.proofs.Common.{◌≡◌, ℕ, ◌<◌, ◌==◌, arith, Bool, ◌||◌, List, [], ◌∷◌, length, drop, drop-drop, get_or, map, ◌+◌, Some, None, Option, refl, ap, ◌∙◌, sym}
use Rattle.std.specs.Prelude.{slice_get, unwrap_or}
use Rattle.std.specs.List.{list_any}
use Rattle.std.specs.Str.{bytes_eq}
use Rattle.std.proofs.lemmas.Bool.Decides.{nat_tests}
use Rattle.std.proofs.lemmas.List.{get_or-map, length-map}
use Rattle.std.proofs.lemmas.Option.{slice_get-get_or}
use Rattle.fints_syntax_segments.specs.Spelling.{Spelled, item_of}
use Rattle.fints_syntax_segments.specs.Segment.{values_of, head_of, item_value}
use Rattle.fints_syntax_segments.specs.Values.{value_at, values_at}
use Rattle.fints_syntax_segments.specs.declared.item.Head.{Head}
use Rattle.fints_syntax_segments.specs.declared.item.OwnedSegment.{OwnedSegment}
use Rattle.fints_syntax.specs.ItemIs.{ItemIs, value_of_item}
use Rattle.fints_syntax.specs.Owned.{no_head, owned_item_of, segment_of, segments_of}
use Rattle.fints_syntax.specs.Places.{place_of}
use Rattle.fints_syntax.specs.declared.text.Item.{Item}
use Rattle.fints_syntax.specs.declared.text.Item.TheVariants as items
use Rattle.fints_rules_messages.specs.Messages.{MessageView}
use Rattle.fints_rules.specs.Facts.{count_of, segment_facts, six_items}
use Rattle.fints_rules.specs.Tallies.{counts_in}
use Rattle.fints_rules.specs.Leading.{first_value}
use Rattle.fints_rules_messages.proofs.ItemValues.{value_at-place, value-none, value-some}

-- ---- heads

pub head_is : (tree : List (List Spelled)) (h : Head) → head_of (values_of tree) ≡ Some h
    → (segment_of tree).head ≡ h
head_is tree h e = ap (λ (o : Option Head). unwrap_or o no_head) e

-- ---- values

abbrev six_of : List (List ℕ) → List (List ℕ)
six_of values =
    get_or values 0 [] ∷ get_or values 1 [] ∷ get_or values 2 [] ∷ get_or values 3 [] ∷ get_or values 4 []
    ∷ get_or values 5 [] ∷ []

pub value_absent : (tree : List (List Spelled)) (e i : ℕ) → 1 < e → 0 < i → ItemIs None (place_of tree e i)
    → value_at (segment_of tree) e i ≡ []
value_absent tree e i h g is = value_at-place tree e i h g ∙ value-none (place_of tree e i) is

pub value_found : (tree : List (List Spelled)) (e i : ℕ) (item : Item) → 1 < e → 0 < i
    → ItemIs (Some item) (place_of tree e i) → value_at (segment_of tree) e i ≡ value_of_item item
value_found tree e i item h g is = value_at-place tree e i h g ∙ value-some item (place_of tree e i) is

pub owned_value : (item : Item) → item_value (owned_item_of item) ≡ value_of_item item
owned_value (items.Text raw) = refl
owned_value (items.Bin slice) = refl

-- only nothing equals nothing
pub none_equal : (v : List ℕ) → (length v == 0) ≡ bytes_eq [] v
none_equal [] = refl
none_equal (x ∷ xs) = grind (arith, nat_tests)

-- a list of six by its elements
pub six_whole : (xs : List (List ℕ)) (a b c d e f : List ℕ) → length xs ≡ 6
    → (get_or xs 0 a ∷ get_or xs 1 b ∷ get_or xs 2 c ∷ get_or xs 3 d ∷ get_or xs 4 e ∷ get_or xs 5 f ∷ [])
    ≡ xs
six_whole [] a b c d e f h = absurd (omega arith)
six_whole (u ∷ []) a b c d e f h = absurd (omega arith)
six_whole (u ∷ v ∷ []) a b c d e f h = absurd (omega arith)
six_whole (u ∷ v ∷ w ∷ []) a b c d e f h = absurd (omega arith)
six_whole (u ∷ v ∷ w ∷ x ∷ []) a b c d e f h = absurd (omega arith)
six_whole (u ∷ v ∷ w ∷ x ∷ y ∷ []) a b c d e f h = absurd (omega arith)
six_whole (u ∷ v ∷ w ∷ x ∷ y ∷ z ∷ []) a b c d e f h = refl
six_whole (u ∷ v ∷ w ∷ x ∷ y ∷ z ∷ s ∷ ss) a b c d e f h = absurd (omega arith)

-- the values of the items of element 2
second_values : (tree : List (List Spelled))
    → values_at (segment_of tree) 2 ≡ map item_value (map item_of (get_or tree 1 []))
second_values [] = refl
second_values (e ∷ []) = refl
second_values (e ∷ f ∷ es) = refl

-- a list's first six, one taken after the other
firsts : (a : List Spelled)
    → (first_value a ∷ first_value (drop 1 a) ∷ first_value (drop 2 a) ∷ first_value (drop 3 a)
    ∷ first_value (drop 4 a) ∷ first_value (drop 5 a) ∷ [])
    ≡ six_of (map item_value (map item_of a))
firsts [] = refl
firsts (s ∷ []) = refl
firsts (s ∷ t ∷ []) = refl
firsts (s ∷ t ∷ u ∷ []) = refl
firsts (s ∷ t ∷ u ∷ v ∷ []) = refl
firsts (s ∷ t ∷ u ∷ v ∷ w ∷ []) = refl
firsts (s ∷ t ∷ u ∷ v ∷ w ∷ x ∷ ss) = refl

drop_next : (n : ℕ) (a b c : List Spelled) → b ≡ drop n a → c ≡ drop 1 b → c ≡ drop (n + 1) a
drop_next n a b c h g = g ∙ ap (drop 1) h ∙ drop-drop 1 n a

pub six_taken : (tree : List (List Spelled)) (a b c d e f : List Spelled) → a ≡ get_or tree 1 []
    → b ≡ drop 1 a → c ≡ drop 1 b → d ≡ drop 1 c → e ≡ drop 1 d → f ≡ drop 1 e
    → (first_value a ∷ first_value b ∷ first_value c ∷ first_value d ∷ first_value e ∷ first_value f ∷ [])
    ≡ six_items (segment_of tree)
six_taken tree a b c d e f is two three four five six =
    let third = drop_next 1 a b c two three in
    let fourth = drop_next 2 a c d third four in
    let fifth = drop_next 3 a d e fourth five in
    let sixth = drop_next 4 a e f fifth six in
    rw (two, third, fourth, fifth, sixth) (firsts a)
    ∙ ap (λ (x : List Spelled). six_of (map item_value (map item_of x))) is
    ∙ ap six_of (sym (second_values tree))

-- ---- lists of segments

any_segments : (p : OwnedSegment → Bool) (trees : List (List (List Spelled)))
    → list_any (λ t. p (segment_of t)) trees ≡ list_any p (segments_of trees)
any_segments p [] = refl
any_segments p (t ∷ ts) = ap (λ b. p (segment_of t) || b) (any_segments p ts)

pub any_in : (p : OwnedSegment → Bool) (trees : List (List (List Spelled))) (segments : List OwnedSegment)
    → segments_of trees ≡ segments → list_any (λ t. p (segment_of t)) trees ≡ list_any p segments
any_in p trees segments is = any_segments p trees ∙ ap (list_any p) is

pub length_in : (trees : List (List (List Spelled))) (segments : List OwnedSegment)
    → segments_of trees ≡ segments → length trees ≡ length segments
length_in trees segments is = sym (length-map trees segment_of) ∙ ap length is

-- the segment at a place
pub segment_at : (trees : List (List (List Spelled))) (i : ℕ) (t : List (List Spelled)) → i < length trees
    → t ≡ get_or trees i t → segment_of t ≡ get_or (segments_of trees) i (segment_of t)
segment_at trees i t lt at = ap segment_of at ∙ sym (get_or-map segment_of trees i t (segment_of t) lt)

pub at_place : (trees : List (List (List Spelled))) (segments : List OwnedSegment) (i : ℕ)
    (t : List (List Spelled)) (s : OwnedSegment)
    → segments_of trees ≡ segments → i < length segments → t ≡ get_or trees i t
    → slice_get segments i ≡ Some s → segment_of t ≡ s
at_place trees segments i t s is lt at found =
    let long = length_in trees segments is in
    let within : i < length trees = omega (arith, long, lt) in
    let here : segment_of t ≡ get_or segments i (segment_of t) =
    segment_at trees i t within at ∙ ap (λ (ss : List OwnedSegment). get_or ss i (segment_of t)) is in
    let there : slice_get segments i ≡ Some (get_or segments i (segment_of t)) =
    slice_get-get_or segments i (segment_of t) lt in
    cc

-- the facts of the segment at a place
pub facts_at : (m : MessageView) (trees : List (List (List Spelled))) (i : ℕ)
    (t : List (List Spelled)) (h : Head) (s : OwnedSegment) (leading : List (List (List ℕ)))
    (lead : List (List ℕ)) (counts : List ℕ) (count : ℕ)
    → segments_of trees ≡ m.body → i < length m.body → t ≡ get_or trees i t → slice_get m.body i ≡ Some s
    → head_of (values_of t) ≡ Some h → leading ≡ map six_items m.body → lead ≡ get_or leading i lead
    → counts ≡ counts_in m.body m.body → count ≡ get_or counts i count
    → record { kind = h.id; version = h.version; items = lead; count = count } ≡ segment_facts m s
facts_at m trees i t h s leading lead counts count is lt at found head all lead_is counted count_is =
    let here : segment_of t ≡ s = at_place trees m.body i t s is lt at found in
    let same : h ≡ s.head = sym (head_is t h head) ∙ ap (λ (x : OwnedSegment). x.head) here in
    let there : Some (get_or m.body i s) ≡ Some s = sym (slice_get-get_or m.body i s lt) ∙ found in
    let self : get_or m.body i s ≡ s = cc in
    let items : lead ≡ six_items s =
    lead_is ∙ ap (λ (ls : List (List (List ℕ))). get_or ls i lead) all
    ∙ get_or-map six_items m.body i s lead lt ∙ ap six_items self in
    let kind : h.id ≡ s.head.id = ap (λ (x : Head). x.id) same in
    let version : h.version ≡ s.head.version = ap (λ (x : Head). x.version) same in
    let same_kind = λ (x : OwnedSegment). count_of x.head.id m.body in
    let count_at : count ≡ count_of s.head.id m.body =
    count_is ∙ ap (λ (cs : List ℕ). get_or cs i count) counted
    ∙ get_or-map same_kind m.body i s count lt ∙ ap same_kind self in
    cc
