-- What a cursor over a segment's text has left: items, each with the byte after it. Only private contracts use this file.
use Rattle.std.specs.Prelude.{◌≡◌, ◌==◌, if◌then◌else◌, ℕ, ◌+◌, ◌≤◌, List, [], ◌∷◌, length, map, Option, Some, None}
use Rattle.fints_syntax_segments.specs.Spelling.{Spelled, IsSpelled, item_of}
use Rattle.fints_syntax_segments.specs.Segment.{Token, item_value, tokens_bytes}
use Rattle.fints_syntax_segments.specs.declared.limits.TheConstants.{MAX_ITEMS}
use Rattle.fints_syntax.specs.Reader.{tokens_in}
use Rattle.fints_syntax.specs.Faults.{IsContinued}
use Rattle.fints_syntax.specs.ItemIs.{IsItem}
use Rattle.fints_syntax.specs.declared.cursor.NextItem.{NextItem}
use Rattle.fints_syntax.specs.declared.cursor.Cursor.TheInside.{Inside}

-- nothing, or items that separators follow, and `'` the last
abbrev pub IsRun : List Token → Type 0
IsRun [] = Unit {0}
IsRun (t ∷ []) = IsSpelled t.item × (t.after ≡ 39)
IsRun (t ∷ u ∷ ts) = IsContinued t × IsRun (u ∷ ts)

abbrev pub tokens_of : Inside → List Token
tokens_of c = tokens_in (length c.rest.now) c.rest.now

pub record IsCursor (c : Inside) : Type 0 where
  pub text : c.rest.now ≡ tokens_bytes (tokens_in (length c.rest.now) c.rest.now)
  pub run : IsRun (tokens_in (length c.rest.now) c.rest.now)
  pub few : length (tokens_in (length c.rest.now) c.rest.now) ≤ MAX_ITEMS

-- the first item that was left is found, and the others are left
pub record IsTaken (old : List Token) (f : NextItem) (new : List Token) : Type 0 where
  pub token : Token
  pub split : old ≡ token ∷ new
  pub item : IsItem f.item token.item
  pub after : f.after ≡ token.after

-- what is left after the items of the element at the front
abbrev pub after_element : List Token → List Token
after_element [] = []
after_element (t ∷ ts) = if t.after == 58 then after_element ts else ts

-- the items of the element at the front, and their values
abbrev pub front : List Token → List Spelled
front [] = []
front (t ∷ ts) = t.item ∷ (if t.after == 58 then front ts else [])

abbrev pub front_values : List Token → List (List ℕ)
front_values ts = map item_value (map item_of (front ts))

-- how many of the items end an element
abbrev pub ends_left : List Token → ℕ
ends_left [] = 0
ends_left (t ∷ ts) = (if t.after == 58 then 0 else 1) + ends_left ts

-- the item at the front
abbrev pub first_of : List Token → Option Spelled
first_of [] = None
first_of (t ∷ ts) = Some t.item
