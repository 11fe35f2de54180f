-- Objects of JSON. Their members come in a fixed order, and what says nothing is left out.
use Rattle.std.specs.Prelude.{codes, ℕ, Bool, Option, None, Some, String, string_bytes, List, [], ◌∷◌, ◌++◌}
use Rattle.std.specs.Char.{encode_utf8}
use Rattle.std.specs.Fmt.{decimal}
use Rattle.std.specs.List.{flat_map}
use Rattle.std.specs.declared.alloc.Global.{Global}
use Rattle.json.specs.Json.{Json, boolean, number, string, array, object, Items, no_items, item, Members, no_members, member}
use Rattle.json.specs.Print.{print}
use Rattle.json.specs.Tree.{json_tokens}

-- the text of bytes in UTF-8: each byte is the character of ISO 8859-1 that has its number
abbrev pub latin : List ℕ → List ℕ
latin bytes = flat_map encode_utf8 bytes

-- a member: its name, and its value
abbrev pub Member : Type 0
Member = List ℕ × Json

abbrev pub text : List ℕ → List ℕ → Member
text name value = (name, string value)

-- a member that is left out where there is no text
abbrev pub some_text : List ℕ → Option (String Global) → List Member
some_text name None = []
some_text name (Some value) = text name (string_bytes value) ∷ []

abbrev pub count : List ℕ → ℕ → Member
count name value = (name, number (decimal value))

abbrev pub latin_value : List ℕ → Json
latin_value bytes = string (latin bytes)

abbrev pub number_value : ℕ → Json
number_value n = number (decimal n)

abbrev pub flag : List ℕ → Bool → Member
flag name value = (name, boolean value)

abbrev pub items_of : List Json → Items
items_of [] = no_items
items_of (value ∷ values) = item value (items_of values)

abbrev pub list : List ℕ → List Json → Member
list name values = (name, array (items_of values))

abbrev pub members_of : List Member → Members
members_of [] = no_members
members_of ((name, value) ∷ members) = member name value (members_of members)

abbrev pub object_of : List Member → Json
object_of members = object (members_of members)

-- a member whose value is an object
abbrev pub nested : List ℕ → List Member → Member
nested name members = (name, object (members_of members))

-- the number of the shape of all objects, which rises where a member is changed or goes, and the command
abbrev pub shape_of : List ℕ → List Member
shape_of command = count (codes "fints") 1 ∷ text (codes "command") command ∷ []

-- the exit status, and the word of the verdict
abbrev pub outcome_of : ℕ → List ℕ → List Member
outcome_of status verdict = count (codes "status") status ∷ text (codes "verdict") verdict ∷ []

-- what an answer begins with
unfoldable pub heading : List ℕ → ℕ → List ℕ → List Member
heading command status verdict = shape_of command ++ outcome_of status verdict

-- the text of a value, and LF
abbrev pub line_of : Json → List ℕ
line_of value = print (json_tokens value) ++ codes "\n"
