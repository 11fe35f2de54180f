-- HIUPA 4: element 4 usage, 0 or 1. HIUPD 6: element 2 account (number:subaccount:country:bank code), 3 IBAN, from 11 on entries (kind:signatures:..).
use Rattle.std.specs.Prelude.{ℕ, ◌==◌, ◌||◌, ◌&&◌, Bool, false, not, List, [], ◌∷◌, length, get_or, map, drop, codes, if◌then◌else◌, Option, Some, None}
use Rattle.std.specs.List.{filter_map}
use Rattle.std.specs.Option.{is_some, option_map, option_and_then, option_map_or}
use Rattle.fints_syntax_segments.specs.declared.item.OwnedItem.{OwnedItem}
use Rattle.fints_syntax_segments.specs.declared.item.OwnedItem.TheVariants.{Text}
use Rattle.fints_syntax_segments.specs.declared.item.OwnedSegment.{OwnedSegment}
use Rattle.fints_syntax_segments.specs.Segment.{item_value}
use Rattle.fints_syntax.specs.Kind.{kind_from}
use Rattle.fints_params.specs.declared.rows.Entry.{Entry}
use Rattle.fints_params.specs.declared.rows.AccountRow.{AccountRow}
use Rattle.fints_syntax_segments.specs.Values.{is_named, value_at}
use Rattle.fints_syntax_segments.specs.Number.{number_of}
use Rattle.fints_params.specs.Reading.{number_or_zero, is_empty}

abbrev pub is_usage : OwnedSegment → Bool
is_usage s = is_named s (codes "HIUPA") 4

-- no usage 0 or 1
abbrev pub usage_fault : OwnedSegment → Option ℕ
usage_fault s =
    if option_map_or (λ n. n == 0 || n == 1) (number_of (value_at s 4 1)) false then None else Some 4

abbrev pub usage_of : OwnedSegment → ℕ
usage_of s = number_or_zero (value_at s 4 1)

abbrev pub is_account : OwnedSegment → Bool
is_account s = is_named s (codes "HIUPD") 6

-- one empty text item
abbrev pub is_empty_element : List OwnedItem → Bool
is_empty_element (Text bytes ∷ []) = is_empty bytes
is_empty_element _ = false

-- 5 or 6 characters of A to Z and 0 to 9
abbrev pub entry_kind : List ℕ → Option (List ℕ)
entry_kind bytes = if (length bytes == 5 || length bytes == 6) then kind_from bytes else None

abbrev pub entry_of : List OwnedItem → Option Entry
entry_of items =
    let values = map item_value items in
    option_and_then
    (λ k. option_map (λ n. record { kind = k; signatures = n }) (number_of (get_or values 1 [])))
    (entry_kind (get_or values 0 []))

-- the elements from 11 on
abbrev pub entry_elements : OwnedSegment → List (List OwnedItem)
entry_elements s = drop 9 s.elements

abbrev pub is_odd_element : List OwnedItem → Bool
is_odd_element items = not (is_empty_element items) && not (is_some (entry_of items))

abbrev pub account_row : OwnedSegment → AccountRow
account_row s = record {
  national =
      record {
        number = value_at s 2 1;
        subaccount = value_at s 2 2;
        country = value_at s 2 3;
        bank = value_at s 2 4;
      };
  iban = value_at s 3 1;
  entries = filter_map entry_of (entry_elements s);
}
