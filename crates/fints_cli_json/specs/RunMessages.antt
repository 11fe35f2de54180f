-- What `run` answers.
use Rattle.std.specs.Prelude.{codes, List, [], ◌∷◌, ◌++◌, map, string_bytes}
use Rattle.fints_cli_json.specs.declared.runs.RunMessage.{RunMessage}
use Rattle.fints_cli_json.specs.Objects.{Member, count, heading, latin, list, object_of, text}

abbrev pub sent_members : RunMessage → List Member
sent_members m =
    count (codes "message") m.message ∷ text (codes "step") (latin m.step) ∷ count (codes "size") m.size
    ∷ text (codes "base64") (string_bytes m.base64) ∷ []

abbrev pub run_members : List RunMessage → List Member
run_members messages =
    heading (codes "run") 0 (codes "sent")
    ++ list (codes "messages") (map (λ m. object_of (sent_members m)) messages) ∷ []
