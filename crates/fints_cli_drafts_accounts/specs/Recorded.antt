-- The items of a recorded element 2. Only private contracts use this file.
use Rattle.std.specs.Prelude.{◌≡◌, ◌≤◌, List, ℕ, length, Option, Some, None, All, Vec}
use Rattle.std.specs.declared.alloc.Global.{Global}
use Rattle.fints_syntax_segments.specs.declared.item.OwnedSegment.{OwnedSegment}
use Rattle.fints_syntax_segments.specs.Values.{items_in, values_at}
use Rattle.fints_script_fields.specs.declared.listing.TheConstants.{MAX_ITEMS}
use Rattle.fints_cli_drafts_accounts.specs.Accounts.{IsText, IsListable}

-- a script can list the element
pub record IsElement (s : OwnedSegment) : Type 0 where
  pub some : 1 ≤ length (items_in s 2)
  pub few : length (items_in s 2) ≤ MAX_ITEMS
  pub texts : All IsText (items_in s 2)
  pub listable : All IsListable (values_at s 2)

abbrev pub RecordedIs : OwnedSegment → Option (Vec (List ℕ) Global) → Type 0
RecordedIs s None = IsElement s → ⊥
RecordedIs s (Some values) = IsElement s × (values.items ≡ values_at s 2)
