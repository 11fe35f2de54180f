-- Items and numbers.
use Rattle.std.proofs.Common.{◌≡◌, ℕ, zero, suc, ◌-◌, ◌^◌, ◌<◌, ◌≤◌, Bool, true, false, ◌&&◌, leb, List, [], ◌∷◌, length, get_or, map, refl, ap, ◌∙◌, sym, arith, Option, Some, None}
use Rattle.std.specs.Prelude.{unwrap_or, option_and_then, option_map, slice_get}
use Rattle.std.specs.Str.{all_ascii_digits}
use Rattle.std.proofs.lemmas.Bool.{lt-leb}
use Rattle.std.proofs.Math.Nat.{pow-le-pow_right}
use Rattle.fints_syntax_segments.specs.Spelling.{Spelled, item_of}
use Rattle.fints_syntax_segments.specs.Segment.{item_value}
use Rattle.fints_syntax.specs.Places.{place_of}
use Rattle.fints_syntax.specs.ItemIs.{ItemIs, value_of_item}
use Rattle.fints_syntax_segments.specs.declared.item.OwnedItem.{OwnedItem}
use Rattle.fints_syntax_segments.specs.declared.item.OwnedItem.TheVariants.{Text, Bin}
use Rattle.fints_syntax_segments.specs.Spelling.{TextUnit, unit_value, text, binary}
use Rattle.std.specs.Borrow.{Bor}
use Rattle.fints_syntax.specs.declared.text.Item.{Item}
use Rattle.fints_syntax.specs.declared.text.Item.TheVariants as items
use Rattle.fints_syntax.specs.Owned.{segment_of}
use Rattle.fints_syntax_segments.specs.Values.{item_at, value_at}
use Rattle.fints_syntax_segments.specs.Number.{number_in}

-- ---- places

abbrev or_empty : Option Spelled → OwnedItem
or_empty o = unwrap_or (option_map item_of o) (Text [])

-- an item of an element, and its value
item_in : (x : List Spelled) (i : ℕ) → get_or (map item_of x) i (Text []) ≡ or_empty (slice_get x i)
item_in [] i = refl
item_in (s ∷ ss) zero = refl
item_in (s ∷ ss) (suc i) = item_in ss i

pub value_in : (x : List Spelled) (i : ℕ)
    → get_or (map item_value (map item_of x)) i [] ≡ item_value (or_empty (slice_get x i))
value_in [] i = refl
value_in (s ∷ ss) zero = refl
value_in (s ∷ ss) (suc i) = value_in ss i

item_in_element : (xs : List (List Spelled)) (e i : ℕ)
    → get_or (get_or (map (map item_of) xs) e []) i (Text []) ≡ or_empty
    (option_and_then (λ items. slice_get items i) (slice_get xs e))
item_in_element [] e i = refl
item_in_element (x ∷ xs) zero i = item_in x i
item_in_element (x ∷ xs) (suc e) i = item_in_element xs e i

value_in_element : (xs : List (List Spelled)) (e i : ℕ)
    → get_or (map item_value (get_or (map (map item_of) xs) e [])) i [] ≡ item_value
    (or_empty (option_and_then (λ items. slice_get items i) (slice_get xs e)))
value_in_element [] e i = refl
value_in_element (x ∷ xs) zero i = value_in x i
value_in_element (x ∷ xs) (suc e) i = value_in_element xs e i

pub item_at-place : (tree : List (List Spelled)) (e i : ℕ) → 1 < e → 0 < i
    → item_at (segment_of tree) e i ≡ or_empty (place_of tree e i)
item_at-place tree zero i h g = absurd (omega arith)
item_at-place tree (suc zero) i h g = absurd (omega arith)
item_at-place tree (suc (suc e)) zero h g = absurd (omega arith)
item_at-place [] (suc (suc e)) (suc i) h g = refl
item_at-place (x ∷ xs) (suc (suc e)) (suc i) h g =
    let a : suc (suc e) - 2 ≡ e = omega arith in
    let b : suc i - 1 ≡ i = omega arith in
    rw (a, b) (item_in_element xs e i)

pub value_at-place : (tree : List (List Spelled)) (e i : ℕ) → 1 < e → 0 < i
    → value_at (segment_of tree) e i ≡ item_value (or_empty (place_of tree e i))
value_at-place tree zero i h g = absurd (omega arith)
value_at-place tree (suc zero) i h g = absurd (omega arith)
value_at-place tree (suc (suc e)) zero h g = absurd (omega arith)
value_at-place [] (suc (suc e)) (suc i) h g = refl
value_at-place (x ∷ xs) (suc (suc e)) (suc i) h g =
    let a : suc (suc e) - 2 ≡ e = omega arith in
    let b : suc i - 1 ≡ i = omega arith in
    rw (a, b) (value_in_element xs e i)

pub value-none : (o : Option Spelled) → ItemIs None o → item_value (or_empty o) ≡ []
value-none None h = refl
value-none (Some s) h = elim h [ ]

pub value-some : (item : Item) (o : Option Spelled) → ItemIs (Some item) o
    → item_value (or_empty o) ≡ value_of_item item
value-some item None h = elim h [ ]
value-some (items.Text raw) (Some (text us)) h = ap (map unit_value) (sym h)
value-some (items.Text raw) (Some (binary ds bs)) h = elim h [ ]
value-some (items.Bin slice) (Some (text us)) h = elim h [ ]
value-some (items.Bin slice) (Some (binary ds bs)) h = sym h

-- ---- numbers

and_false_right : (x : Bool) → (x && false) ≡ false
and_false_right true = refl
and_false_right false = refl

pub number_in-long : (least most : ℕ) (bs : List ℕ) → most < length bs → number_in least most bs ≡ None
number_in-long least most bs h = rw (lt-leb (length bs) most h, and_false_right (all_ascii_digits bs && leb least (length bs))) refl

pub number_in-short : (least most : ℕ) (bs : List ℕ) → length bs < least → number_in least most bs ≡ None
number_in-short least most bs h = rw (lt-leb least (length bs) h, and_false_right (all_ascii_digits bs)) refl

-- ---- data

text_none : (o : Option Spelled) (bytes : List ℕ) → ItemIs None o → or_empty o ≡ Bin bytes → ⊥
text_none None bytes h e = cc
text_none (Some s) bytes h e = elim h [ ]

pub data-none : (tree : List (List Spelled)) (e i : ℕ) → 1 < e → 0 < i → ItemIs None (place_of tree e i)
    → (bytes : List ℕ) → item_at (segment_of tree) e i ≡ Bin bytes → ⊥
data-none tree e i h g is bytes q = text_none (place_of tree e i) bytes is (sym (item_at-place tree e i h g) ∙ q)

text_some : (raw : List TextUnit) (o : Option Spelled) (bytes : List ℕ) → ItemIs (Some (items.Text raw)) o
    → or_empty o ≡ Bin bytes → ⊥
text_some raw None bytes h e = elim h [ ]
text_some raw (Some (text us)) bytes h e = cc
text_some raw (Some (binary ds bs)) bytes h e = elim h [ ]

pub data-text : (tree : List (List Spelled)) (e i : ℕ) (raw : List TextUnit) → 1 < e → 0 < i
    → ItemIs (Some (items.Text raw)) (place_of tree e i) → (bytes : List ℕ)
    → item_at (segment_of tree) e i ≡ Bin bytes → ⊥
data-text tree e i raw h g is bytes q = text_some raw (place_of tree e i) bytes is (sym (item_at-place tree e i h g) ∙ q)

bin_some : (slice : Bor (List ℕ)) (o : Option Spelled) → ItemIs (Some (items.Bin slice)) o
    → or_empty o ≡ Bin slice.now
bin_some slice None h = elim h [ ]
bin_some slice (Some (text us)) h = elim h [ ]
bin_some slice (Some (binary ds bs)) h = ap (λ (b : List ℕ). Bin b) (sym h)

pub data-bin : (tree : List (List Spelled)) (e i : ℕ) (slice : Bor (List ℕ)) → 1 < e → 0 < i
    → ItemIs (Some (items.Bin slice)) (place_of tree e i) → item_at (segment_of tree) e i ≡ Bin slice.now
data-bin tree e i slice h g is = item_at-place tree e i h g ∙ bin_some slice (place_of tree e i) is

-- ---- numbers at a place

pub number-none : (tree : List (List Spelled)) (e i least most : ℕ) → 1 < e → 0 < i → 0 < least
    → ItemIs None (place_of tree e i) → number_in least most (value_at (segment_of tree) e i) ≡ None
number-none tree e i least most h g l is =
    ap (number_in least most) (value_at-place tree e i h g)
    ∙ ap (number_in least most) (value-none (place_of tree e i) is)
    ∙ number_in-short least most [] (omega arith)

pub number-some : (tree : List (List Spelled)) (e i least most : ℕ) (item : Item) → 1 < e → 0 < i
    → ItemIs (Some item) (place_of tree e i)
    → number_in least most (value_at (segment_of tree) e i) ≡ number_in least most (value_of_item item)
number-some tree e i least most item h g is =
    ap (number_in least most) (value_at-place tree e i h g) ∙ ap (number_in least most) (value-some item (place_of tree e i) is)

pub few_digits : (n count : ℕ) → n < 10 ^ count → count < 18 → n < 10 ^ 17
few_digits n count h lt =
    let power : 10 ^ count ≤ 10 ^ 17 = let pos : 0 < 10 = omega arith in let le : count ≤ 17 = omega arith in pow-le-pow_right pos le in omega arith
