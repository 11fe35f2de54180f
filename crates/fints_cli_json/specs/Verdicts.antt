-- What `judge` answers.
use Rattle.std.specs.Prelude.{codes, ℕ, List, [], ◌∷◌, ◌++◌, map}
use Rattle.fints_cli_json.specs.declared.found.JsonFinding.{JsonFinding}
use Rattle.fints_cli_json.specs.Findings.{found_value}
use Rattle.fints_cli_json.specs.Objects.{Member, heading, list}
use Rattle.fints_cli_json.specs.Words.{judge_word}

-- 0 where nothing is broken, else 1
abbrev pub found_status : List JsonFinding → ℕ
found_status [] = 0
found_status (f ∷ fs) = 1

-- the rules that a message breaks, in their order
abbrev pub judge_members : List JsonFinding → List Member
judge_members founds =
    heading (codes "judge") (found_status founds) (judge_word (found_status founds))
    ++ list (codes "findings") (map found_value founds) ∷ []
