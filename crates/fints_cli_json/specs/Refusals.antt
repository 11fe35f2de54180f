-- What a command answers that has no answer.
use Rattle.std.specs.Prelude.{codes, ℕ, List, [], ◌∷◌, ◌++◌, Option, String, string_bytes}
use Rattle.std.specs.declared.alloc.Global.{Global}
use Rattle.fints_cli_json.specs.Objects.{Member, heading, some_text, text}

abbrev pub refusal_members : List ℕ → ℕ → String Global → Option (String Global) → List Member
refusal_members command status error hint =
    heading command status (codes "refused")
    ++ ((text (codes "error") (string_bytes error) ∷ []) ++ some_text (codes "hint") hint)
