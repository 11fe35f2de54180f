-- Which TOML data bytes denote, and look-ups in them. What is TOML is decided by `toml`'s own reading.
use Rattle.std.specs.Prelude.{ℕ, pos, nat_le, Bool, true, ◌&&◌, if◌then◌else◌, List, [], ◌∷◌, length, Option, Some, None, Result, Ok, Err, String, ◌≡◌}
use Rattle.std.specs.List.{list_any}
use Rattle.std.specs.Str.{is_utf8, bytes_eq}
use Rattle.toml.specs.Parse.{parse_document}
use Rattle.toml.specs.View.{table_view}
use Rattle.toml.specs.declared.value.Value.{Value}
use Rattle.std.specs.BTreeMap.{BTreeMap}
use Rattle.std.specs.declared.alloc.Global.{Global}
use Rattle.fints_syntax_texts.specs.declared.document.Unread.{Unread}
use Rattle.fints_syntax_texts.specs.declared.document.Unread.TheVariants.{NotToml, Memory}
use Rattle.fints_syntax_texts.specs.declared.lines.TheConstants.{MAX_TEXT}
use Rattle.toml.specs.Data.{Data, integer, Items, no_items, item, Members, no_members, member}

-- the table that bytes are, as toml reads them: at most MAX_TEXT bytes of UTF-8
unfoldable pub document : List ℕ → Option Members
document text = if nat_le (length text) MAX_TEXT && is_utf8 text then parse_document text else None

-- the values of an array, in order
abbrev pub item_list : Items → List Data
item_list no_items = []
item_list (item d ds) = d ∷ item_list ds

-- the name is one of these
abbrev pub is_among : List (List ℕ) → List ℕ → Bool
is_among names name = list_any (λ n. bytes_eq n name) names

-- each key is one of the names
abbrev pub only_keys : List (List ℕ) → Members → Bool
only_keys names no_members = true
only_keys names (member k d ms) = is_among names k && only_keys names ms

-- an integer from low to high
abbrev pub number_between : ℕ → ℕ → Data → Option ℕ
number_between low high (integer (pos n)) = if nat_le low n && nat_le n high then Some n else None
number_between low high _ = None

-- what was read is the document, unless memory ran out
abbrev pub Reads : Result (BTreeMap (String Global) Value) Unread → Option Members → Type 0
Reads (Ok t) found = found ≡ Some (table_view t)
Reads (Err NotToml) found = found ≡ None
Reads (Err Memory) found = Unit {0}
