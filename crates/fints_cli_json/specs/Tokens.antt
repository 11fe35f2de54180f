-- The tokens of members and of values. Only private contracts use this file.
use Rattle.std.specs.Prelude.{List, ◌∷◌}
use Rattle.std.specs.List.{flat_map}
use Rattle.json.specs.Json.{Json}
use Rattle.json.specs.Token.{Token, key}
use Rattle.json.specs.Tree.{json_tokens}
use Rattle.fints_cli_json.specs.Objects.{Member}

unfoldable pub member_tokens : Member → List Token
member_tokens (name, value) = key name ∷ json_tokens value

abbrev pub all_members : List Member → List Token
all_members members = flat_map member_tokens members

abbrev pub all_values : List Json → List Token
all_values values = flat_map json_tokens values
