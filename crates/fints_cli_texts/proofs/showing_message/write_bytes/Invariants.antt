use Rattle.std.proofs.Common.{◌≡◌, ◌++◌, take}
use Rattle.std.specs.List.{flat_map}
use Rattle.fints_cli_texts.specs.ShowMessage.{shown_byte}
use Rattle.fints_cli_texts.proofs.showing_message.write_bytes.Given as goal

abbrev pub invariant-loop-b : goal.invariant-loop-b
invariant-loop-b l = l.text.items ≡ l.initial.text.items ++ flat_map shown_byte (take l.b-index l.bytes)
