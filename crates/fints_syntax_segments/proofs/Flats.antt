-- Lists given by runs of other lists.
use Rattle.std.proofs.Common.{◌≡◌, ℕ, zero, suc, ◌+◌, ◌-◌, ◌<◌, ◌≤◌, List, [], ◌∷◌, Some, None, ◌++◌, length, take, drop, map, get_or, cond, refl, ap, ◌∙◌, sym, arith}
use Rattle.std.specs.List.{AllByRecursion}
use Rattle.std.proofs.lemmas.List.{length-append, map-append, length-map, drop_at, take_all, take-append-drop, length-drop}
use Rattle.std.specs.Prelude.{slice_get, Result, Ok, Err, OnErr}
use Rattle.fints_syntax_segments.specs.Written.{KeepsFront}
use Rattle.fints_syntax_segments.specs.Segment.{item_value}
use Rattle.fints_syntax_segments.specs.Flat.{run_of, spanned, all_items, element_at, elements_at, IsSpanIn, IsGroupIn}
use Rattle.fints_syntax_segments.specs.declared.item.OwnedItem.{OwnedItem}
use Rattle.fints_syntax_segments.specs.declared.item.OwnedItem.TheVariants.{Text, Bin}
use Rattle.fints_syntax_segments.specs.declared.element.Span.{Span}
use Rattle.fints_syntax_segments.specs.declared.flat.Group.{Group}

take_front : {A : Type 0} (n : ℕ) (xs ys : List A) → n ≤ length xs → take n (xs ++ ys) ≡ take n xs
take_front zero xs ys h = refl
take_front (suc n) [] ys h = absurd (omega arith)
take_front {A} (suc n) (x ∷ xs) ys h = ap (λ (zs : List A). x ∷ zs) (take_front n xs ys (omega arith))

-- a run of the front
run_front : {A : Type 0} (xs ys : List A) (start len : ℕ) → start + len ≤ length xs
    → run_of (xs ++ ys) start len ≡ run_of xs start len
run_front xs ys zero len h = take_front len xs ys (omega arith)
run_front [] ys (suc start) len h = absurd (omega arith)
run_front (x ∷ xs) ys (suc start) len h = run_front xs ys start len (omega arith)

drop_front : {A : Type 0} (n : ℕ) (xs ys : List A) → n ≤ length xs → drop n (xs ++ ys) ≡ drop n xs ++ ys
drop_front zero xs ys h = refl
drop_front (suc n) [] ys h = absurd (omega arith)
drop_front (suc n) (x ∷ xs) ys h = drop_front n xs ys (omega arith)

spanned_front : (bs more : List ℕ) (s : Span) → IsSpanIn (length bs) s → spanned (bs ++ more) s ≡ spanned bs s
spanned_front bs more s h = ap (λ (v : List ℕ). cond s.binary (Bin v) (Text v)) (run_front bs more s.start s.len h)

-- more bytes leave the items as they are
pub items_front : (bs more : List ℕ) (ss : List Span) → AllByRecursion (IsSpanIn (length bs)) ss
    → all_items (bs ++ more) ss ≡ all_items bs ss
items_front bs more [] h = refl
items_front bs more (s ∷ ss) h = rw (spanned_front bs more s h.0, items_front bs more ss h.1) refl

-- more items leave the elements as they are
pub elements_front : (items more : List OwnedItem) (gs : List Group)
    → AllByRecursion (IsGroupIn (length items)) gs → elements_at (items ++ more) gs ≡ elements_at items gs
elements_front items more [] h = refl
elements_front items more (g ∷ gs) h = rw (run_front items more g.first g.count h.0.1, elements_front items more gs h.1) refl

pub spans_more : (n m : ℕ) (ss : List Span) → n ≤ m → AllByRecursion (IsSpanIn n) ss
    → AllByRecursion (IsSpanIn m) ss
spans_more n m [] le h = tt
spans_more n m (s ∷ ss) le h = let a : s.start + s.len ≤ n = h.0 in (omega arith, spans_more n m ss le h.1)

pub groups_more : (n m : ℕ) (gs : List Group) → n ≤ m → AllByRecursion (IsGroupIn n) gs
    → AllByRecursion (IsGroupIn m) gs
groups_more n m [] le h = tt
groups_more n m (g ∷ gs) le h = let a : g.first + g.count ≤ n = h.0.1 in ((h.0.0, omega arith), groups_more n m gs le h.1)

pub all_add : {A : Type 0} (P : A → Type 0) (xs : List A) (x : A) → AllByRecursion P xs → P x
    → AllByRecursion P (xs ++ x ∷ [])
all_add P [] x h p = (p, tt)
all_add P (y ∷ ys) x h p = (h.0, all_add P ys x h.1 p)

pub front_more : (old new : List ℕ) → KeepsFront old new → new ≡ old ++ drop (length old) new
front_more old new k = sym (take-append-drop (length old) new) ∙ ap (λ (x : List ℕ). x ++ drop (length old) new) k

-- ---- one item more

spanned_added : (bs v : List ℕ) (s : Span) → s.start ≡ length bs → s.len ≡ length v
    → spanned (bs ++ v) s ≡ cond s.binary (Bin v) (Text v)
spanned_added bs v s a l =
    let one : drop s.start (bs ++ v) ≡ v = drop_at bs v s.start (sym a) in
    let two : take s.len v ≡ v = take_all s.len v (omega arith) in
    ap (λ (x : List ℕ). cond s.binary (Bin x) (Text x)) (ap (take s.len) one ∙ two)

pub items_added : (bs v : List ℕ) (ss : List Span) (s : Span) → AllByRecursion (IsSpanIn (length bs)) ss
    → s.start ≡ length bs → s.len ≡ length v
    → all_items (bs ++ v) (ss ++ s ∷ []) ≡ all_items bs ss ++ cond s.binary (Bin v) (Text v) ∷ []
items_added bs v ss s h a l =
    map-append (spanned (bs ++ v)) ss (s ∷ [])
    ∙ ap (λ (x : List OwnedItem). x ++ spanned (bs ++ v) s ∷ []) (items_front bs v ss h)
    ∙ ap (λ (x : OwnedItem). all_items bs ss ++ x ∷ []) (spanned_added bs v s a l)

module _ (bs v : List ℕ) (ss : List Span) (gs : List Group) (at : ℕ)
    (spans_in : AllByRecursion (IsSpanIn (length bs)) ss) (groups_in : AllByRecursion (IsGroupIn at) gs)
    (within : at ≤ length ss) where
  groups_in_items : AllByRecursion (IsGroupIn (length (all_items bs ss))) gs
  groups_in_items = groups_more at (length (all_items bs ss)) gs (omega (arith, length-map ss (spanned bs), within)) groups_in

  -- the view after an item was added
  pub view_added : (s : Span) → s.start ≡ length bs → s.len ≡ length v → (o : OwnedItem)
      → o ≡ cond s.binary (Bin v) (Text v)
      → (elements_at (all_items (bs ++ v) (ss ++ s ∷ [])) gs ≡ elements_at (all_items bs ss) gs)
      × (drop at (all_items (bs ++ v) (ss ++ s ∷ [])) ≡ drop at (all_items bs ss) ++ o ∷ [])
  view_added s a l o is =
      let more = items_added bs v ss s spans_in a l ∙ ap (λ (x : OwnedItem). all_items bs ss ++ x ∷ []) (sym is) in (
        ap (λ (x : List OwnedItem). elements_at x gs) more ∙ elements_front (all_items bs ss) (o ∷ []) gs groups_in_items,
        ap (drop at) more ∙ drop_front at (all_items bs ss) (o ∷ []) (omega (arith, length-map ss (spanned bs))),
      )

  -- the view where only bytes were added
  pub view_front : (elements_at (all_items (bs ++ v) ss) gs ≡ elements_at (all_items bs ss) gs)
      × (drop at (all_items (bs ++ v) ss) ≡ drop at (all_items bs ss))
  view_front = (ap (λ (x : List OwnedItem). elements_at x gs) (items_front bs v ss spans_in), ap (drop at) (items_front bs v ss spans_in))

  pub spans_added : (s : Span) → s.start ≡ length bs → s.len ≡ length v
      → AllByRecursion (IsSpanIn (length (bs ++ v))) (ss ++ s ∷ [])
  spans_added s a l =
      let size : length (bs ++ v) ≡ length bs + length v = length-append bs v in
      all_add (IsSpanIn (length (bs ++ v))) ss s (spans_more (length bs) (length (bs ++ v)) ss (omega arith) spans_in) (omega arith)

  pub within_added : (s : Span) → at ≤ length (ss ++ s ∷ [])
  within_added s = omega (arith, length-append ss (s ∷ []))

-- ---- the items of an element

map_drop : {A B : Type 0} (f : A → B) (n : ℕ) (xs : List A) → drop n (map f xs) ≡ map f (drop n xs)
map_drop f zero xs = refl
map_drop f (suc n) [] = refl
map_drop f (suc n) (x ∷ xs) = map_drop f n xs

all_take : {A : Type 0} (P : A → Type 0) (n : ℕ) (xs : List A) → AllByRecursion P xs
    → AllByRecursion P (take n xs)
all_take P zero xs h = tt
all_take P (suc n) [] h = tt
all_take P (suc n) (x ∷ xs) h = (h.0, all_take P n xs h.1)

-- ---- the value of an item

pub value_none : (items : List OwnedItem) (i : ℕ) → slice_get items i ≡ None
    → [] ≡ get_or (map item_value items) i []
value_none [] i is = refl
value_none (x ∷ xs) zero is = absurd cc
value_none (x ∷ xs) (suc i) is = value_none xs i is

pub value_some : (items : List OwnedItem) (i : ℕ) (x : OwnedItem) → slice_get items i ≡ Some x
    → item_value x ≡ get_or (map item_value items) i []
value_some [] i x is = absurd cc
value_some (y ∷ ys) zero x is = let same : y ≡ x = cc in ap item_value (sym same)
value_some (y ∷ ys) (suc i) x is = value_some ys i x is

-- ---- the open items left out

drop_taken : {A : Type 0} (n : ℕ) (xs : List A) → drop n (take n xs) ≡ []
drop_taken zero xs = refl
drop_taken (suc n) [] = refl
drop_taken (suc n) (x ∷ xs) = drop_taken n xs

length_taken : {A : Type 0} (n : ℕ) (xs : List A) → n ≤ length xs → length (take n xs) ≡ n
length_taken zero xs h = refl
length_taken (suc n) [] h = absurd (omega arith)
length_taken (suc n) (x ∷ xs) h = let r = length_taken n xs (omega arith) in omega (arith, r)

pub record IsLeft (bs : List ℕ) (ss : List Span) (gs : List Group) (at : ℕ) : Type 0 where
  pub spans : AllByRecursion (IsSpanIn (length bs)) (take at ss)
  pub within : at ≤ length (take at ss)
  pub elements : elements_at (all_items bs (take at ss)) gs ≡ elements_at (all_items bs ss) gs
  pub items : drop at (all_items bs (take at ss)) ≡ []

pub open_left : (bs : List ℕ) (ss : List Span) (gs : List Group) (at : ℕ)
    → AllByRecursion (IsSpanIn (length bs)) ss → AllByRecursion (IsGroupIn at) gs → at ≤ length ss
    → IsLeft bs ss gs at
open_left bs ss gs at spans groups within =
    let size : length (take at ss) ≡ at = length_taken at ss within in
    let front = all_items bs (take at ss) in
    let more = all_items bs (drop at ss) in
    let is : all_items bs ss ≡ front ++ more = ap (all_items bs) (sym (take-append-drop at ss)) ∙ map-append (spanned bs) (take at ss) (drop at ss) in
    let inside : AllByRecursion (IsGroupIn (length front)) gs =
    groups_more at (length front) gs (omega (arith, length-map (take at ss) (spanned bs), size)) groups in
    record {
      spans = all_take (IsSpanIn (length bs)) at ss spans;
      within = omega (arith, size);
      elements = sym (ap (λ (x : List OwnedItem). elements_at x gs) is ∙ elements_front front more gs inside);
      items = map_drop (spanned bs) at (take at ss) ∙ ap (all_items bs) (drop_taken at ss);
    }

-- ---- the whole elements

element_some : (items : List OwnedItem) (g : Group) → IsGroupIn (length items) g
    → 0 < length (element_at items g)
element_some items g h =
    let rest : length (drop g.first items) ≡ length items - g.first = length-drop g.first items in
    let size : length (take g.count (drop g.first items)) ≡ g.count = length_taken g.count (drop g.first items) (omega (arith, rest, h.1)) in
    omega (arith, size, h.0)

elements_some : (items : List OwnedItem) (gs : List Group) → AllByRecursion (IsGroupIn (length items)) gs
    → AllByRecursion (λ e. 0 < length e) (elements_at items gs)
elements_some items [] h = tt
elements_some items (g ∷ gs) h = (element_some items g h.0, elements_some items gs h.1)

-- each has an item
pub whole_some : (bs : List ℕ) (ss : List Span) (gs : List Group) (at : ℕ) → AllByRecursion (IsGroupIn at) gs
    → at ≤ length ss → AllByRecursion (λ e. 0 < length e) (elements_at (all_items bs ss) gs)
whole_some bs ss gs at groups within =
    elements_some (all_items bs ss) gs
    (groups_more at (length (all_items bs ss)) gs (omega (arith, length-map ss (spanned bs))) groups)

pub on_err : {T E P : Type 0} (r : Result T E) → P → OnErr r P
on_err (Ok x) p = tt
on_err (Err e) p = p
