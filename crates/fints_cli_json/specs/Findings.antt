-- An object of the list `findings`: a rule that is broken, where, why, and in which run. And of the list `notes`.
use Rattle.std.specs.Prelude.{codes, map, List, [], ◌∷◌, ◌++◌, Option, None, Some, string_bytes}
use Rattle.json.specs.Json.{Json}
use Rattle.fints_rules.specs.declared.rule.Broken.{Broken}
use Rattle.fints_rules.specs.declared.rule.Rule.{Rule}
use Rattle.fints_script_cases.specs.declared.case.Case.{Case}
use Rattle.fints_cli_json.specs.Case.{case_members}
use Rattle.fints_cli_json.specs.declared.found.JsonFinding.{JsonFinding}
use Rattle.fints_cli_json.specs.declared.found.FindingPlace.{FindingPlace}
use Rattle.fints_cli_json.specs.declared.found.FindingPlace.TheVariants.{Itself, Message, Step}
use Rattle.fints_cli_json.specs.declared.note.JsonNote.{JsonNote}
use Rattle.fints_cli_json.specs.declared.found.SegmentName.{SegmentName}
use Rattle.fints_cli_json.specs.declared.found.Reason.{Reason}
use Rattle.fints_cli_json.specs.Objects.{Member, count, latin, list, nested, object_of, text}
use Rattle.fints_cli_json.specs.Words.{cause_in, rule_code, rule_word}

abbrev pub broken_members : Broken → List Member
broken_members b =
    text (codes "rule") (rule_code b.rule) ∷ text (codes "name") (rule_word b.rule)
    ∷ count (codes "segment") b.segment ∷ []

-- the kind and the version of a segment; nothing for the message as a whole
abbrev pub segment_members : Option SegmentName → List Member
segment_members None = []
segment_members (Some s) = text (codes "kind") (string_bytes s.kind) ∷ count (codes "version") s.version ∷ []

-- the cause for which a rule is broken, and the words of the reason
abbrev pub why_members : Rule → Reason → List Member
why_members rule why =
    text (codes "cause") (cause_in rule why.cause) ∷ text (codes "why") (string_bytes why.words) ∷ []

-- which of several messages, or which step, the finding is about
abbrev pub place_members : FindingPlace → List Member
place_members Itself = []
place_members (Message number) = count (codes "message") number ∷ []
place_members (Step name) = text (codes "step") (latin name) ∷ []

-- a run that breaks the rule
abbrev pub case_member : Option Case → List Member
case_member None = []
case_member (Some case) = nested (codes "case") (case_members case.values case.answers.items) ∷ []

abbrev pub found_members : JsonFinding → List Member
found_members f =
    place_members f.placed.place
    ++ (broken_members f.placed.broken
    ++ (segment_members f.why.segment ++ (why_members f.placed.broken.rule f.why ++ case_member f.case)))

abbrev pub found_value : JsonFinding → Json
found_value f = object_of (found_members f)

abbrev pub note_members : JsonNote → List Member
note_members note = text (codes "note") (string_bytes note.words) ∷ []

abbrev pub note_value : JsonNote → Json
note_value note = object_of (note_members note)

-- the findings, and then the notes
abbrev pub findings_members : List JsonFinding → List JsonNote → List Member
findings_members founds notes =
    list (codes "findings") (map found_value founds) ∷ list (codes "notes") (map note_value notes) ∷ []
