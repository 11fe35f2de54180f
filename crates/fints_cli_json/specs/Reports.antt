-- What `check`, `explain` and `certify` answer, and `verify`.
use Rattle.std.specs.Prelude.{codes, ℕ, Bool, true, false, List, [], ◌∷◌, ◌++◌, map, Option, None, Some, String}
use Rattle.std.specs.declared.alloc.Global.{Global}
use Rattle.fints_check_findings.specs.declared.finding.Reached.{Reached}
use Rattle.fints_cli_json.specs.declared.found.JsonFinding.{JsonFinding}
use Rattle.fints_cli_json.specs.declared.note.JsonNote.{JsonNote}
use Rattle.fints_cli_json.specs.declared.reports.StepFigures.{StepFigures}
use Rattle.fints_cli_json.specs.Findings.{findings_members, note_value}
use Rattle.fints_cli_json.specs.Objects.{Member, count, heading, latin, list, object_of, some_text, text}
use Rattle.fints_cli_json.specs.Verdicts.{found_status}
use Rattle.fints_cli_json.specs.Words.{clean_word, valid_word}

-- the greatest number and size of a step's messages; nothing where no run sends it
abbrev pub reached_members : Option Reached → List Member
reached_members None = []
reached_members (Some reached) =
    count (codes "number") reached.number ∷ count (codes "size") reached.size ∷ []

abbrev pub step_members : StepFigures → List Member
step_members s = (text (codes "step") (latin s.name) ∷ []) ++ reached_members s.reached

-- the steps of a script, the rules that its runs break, and notes, for the command of this name
abbrev pub report_members : List ℕ → List StepFigures → List JsonFinding → List JsonNote → List Member
report_members command steps founds notes =
    heading command (found_status founds) (clean_word (found_status founds))
    ++ ((list (codes "steps") (map (λ s. object_of (step_members s)) steps) ∷ [])
    ++ findings_members founds notes)

-- a certificate and notes
abbrev pub certified_part : List ℕ → List JsonNote → List Member
certified_part certificate notes =
    text (codes "certificate") (latin certificate) ∷ list (codes "notes") (map note_value notes) ∷ []

abbrev pub certificate_members : List ℕ → List JsonNote → List Member
certificate_members certificate notes =
    heading (codes "certify") 0 (clean_word 0) ++ certified_part certificate notes

abbrev pub verified_status : Bool → ℕ
verified_status true = 0
verified_status false = 1

-- whether a certificate holds, and why it doesn't
abbrev pub verified_members : Bool → Option (String Global) → List Member
verified_members holds why =
    heading (codes "verify") (verified_status holds) (valid_word (verified_status holds))
    ++ some_text (codes "why") why
