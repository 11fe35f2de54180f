-- The laws of the words. Each is the contract of a public function.
use Rattle.std.specs.Prelude.{codes, ◌≡◌, ◌++◌}
use Rattle.fints_rules.specs.Rules.{rule_name}
use Rattle.fints_rules.specs.declared.rule.Rule.{Rule}
use Rattle.fints_cli_json.specs.Words.{rule_code, rule_word}

-- a rule's number and its name, with a blank between, are what texts print of it
abbrev pub NamesAsPrinted : Type 0
NamesAsPrinted = (rule : Rule) → rule_name rule ≡ rule_code rule ++ (codes " " ++ rule_word rule)
