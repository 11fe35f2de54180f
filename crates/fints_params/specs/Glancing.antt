-- What a glance at a segment says of it. Only private contracts use this file.
use Rattle.std.specs.Prelude.{◌≡◌, ℕ, Bool, true, false, ◌||◌, List, [], ◌∷◌, Some, None}
use Rattle.fints_syntax_segments.specs.Spelling.{Spelled, item_of}
use Rattle.fints_syntax_segments.specs.Segment.{item_value}
use Rattle.fints_syntax_segments.specs.Number.{number_of}
use Rattle.fints_syntax_segments.specs.declared.item.OwnedSegment.{OwnedSegment}
use Rattle.fints_syntax.specs.Places.{place_of}
use Rattle.fints_params.specs.declared.glancing.Tells.{Tells}
use Rattle.fints_params.specs.declared.glancing.Tells.TheVariants.{Nothing, Order, More}
use Rattle.fints_params.specs.Accounts.{is_account, is_usage}
use Rattle.fints_params.specs.Bank.{is_bank}
use Rattle.fints_params.specs.Orders.{kind_of_orders, order_in}
use Rattle.fints_params.specs.Pins.{is_pins}
use Rattle.fints_params.specs.Sealed.{is_sealed}
use Rattle.fints_params.specs.Steps.{Continues}
use Rattle.fints_params.specs.Tans.{tan_in}

-- item 1 of the element spells the number
pub record SpellsNumber (es : List (List Spelled)) (element n : ℕ) : Type 0 where
  pub item : Spelled
  pub at : place_of es element 1 ≡ Some item
  pub number : number_of (item_value (item_of item)) ≡ Some n

-- a segment that is read beyond a parameter segment's numbers, HITANS left out
abbrev pub is_read_whole : OwnedSegment → Bool
is_read_whole s = is_bank s || is_pins s || is_usage s || is_account s || is_sealed s

-- nothing else is read of the segment
pub record IsReadAlone (s : OwnedSegment) : Type 0 where
  pub whole : is_read_whole s ≡ false
  pub tans : tan_in s ≡ None

-- a parameter segment's row, or no row, and nothing else
abbrev pub IsGlance : Tells → OwnedSegment → Type 0
IsGlance Nothing s = IsReadAlone s × (kind_of_orders s.head.id ≡ None)
IsGlance (Order row) s = IsReadAlone s × (order_in s ≡ Some row)
IsGlance More s = Unit {0}

-- the segment is no HNVSD and is taken, or the state is as it was
abbrev pub IsGlanced : {S : Type 0} → (List OwnedSegment → S → Type 0) → S → S → OwnedSegment → Bool → Type 0
IsGlanced Good old new s true = (is_sealed s ≡ false) × Continues Good old new (s ∷ [])
IsGlanced Good old new s false = new ≡ old
