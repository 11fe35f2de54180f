-- What `audit` answers.
use Rattle.std.specs.Prelude.{codes, List, [], ◌∷◌, ◌++◌, map}
use Rattle.fints_cli_json.specs.declared.audits.MessageSize.{MessageSize}
use Rattle.fints_cli_json.specs.declared.found.JsonFinding.{JsonFinding}
use Rattle.fints_cli_json.specs.declared.note.JsonNote.{JsonNote}
use Rattle.fints_cli_json.specs.Findings.{findings_members}
use Rattle.fints_cli_json.specs.Objects.{Member, count, heading, list, object_of}
use Rattle.fints_cli_json.specs.Verdicts.{found_status}
use Rattle.fints_cli_json.specs.Words.{judge_word}

abbrev pub size_members : MessageSize → List Member
size_members m = count (codes "message") m.message ∷ count (codes "size") m.size ∷ []

-- the client's messages, the rules that they break, and notes
abbrev pub audit_members : List MessageSize → List JsonFinding → List JsonNote → List Member
audit_members messages founds notes =
    heading (codes "audit") (found_status founds) (judge_word (found_status founds))
    ++ ((list (codes "messages") (map (λ m. object_of (size_members m)) messages) ∷ [])
    ++ findings_members founds notes)
