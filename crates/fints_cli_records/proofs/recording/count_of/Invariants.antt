use Rattle.std.proofs.Common.{◌≡◌, ◌+◌, ◌≤◌, drop}
use Rattle.fints_cli_records.specs.Record.{count_of}
use Rattle.fints_cli_records.proofs.recording.count_of.Given as goal

abbrev pub invariant-loop-found : goal.invariant-loop-found
invariant-loop-found l = record {
  counted : l.count + count_of l.form (drop l.found-index l.messages) ≡ count_of l.form l.messages;
  below : l.count ≤ l.found-index;
}
