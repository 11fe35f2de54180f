use Rattle.std.proofs.Common.{◌≡◌, ◌≤◌, ◌+◌, ◌++◌, string_bytes, drop}
use Rattle.fints_cli_texts.specs.Audit.{lines_from}
use Rattle.fints_cli_texts.proofs.auditing.write_messages.Given as goal

abbrev pub invariant-loop-i : goal.invariant-loop-i
invariant-loop-i l = record {
  within : l.dialogue ≤ l.i + 1;
  text :
      string_bytes l.text ++ lines_from l.several l.dialogue (l.i + 1) (drop l.i l.audited)
      ≡ string_bytes l.initial.text ++ lines_from l.several 1 1 l.audited;
}
