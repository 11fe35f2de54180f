-- What the line of a failure says after `error: `.
use Rattle.std.specs.Prelude.{codes, ◌++◌, ℕ, List}
use Rattle.fints_cli_texts.specs.FaultText.{fault_text}
use Rattle.fints_cli_words.specs.Requests.{option_of}
use Rattle.fints_cli_commands.specs.declared.failing.Failure.{Failure}
use Rattle.fints_cli_commands.specs.declared.failing.Failure.TheVariants.{Input, Unread}

abbrev pub failure_text : Failure → List ℕ
failure_text (Input fault) = fault_text fault
failure_text (Unread input) = codes "read --" ++ option_of input
