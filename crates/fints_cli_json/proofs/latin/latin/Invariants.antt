use Rattle.std.proofs.Common.{◌≡◌, string_bytes, take}
use Rattle.fints_cli_json.specs.Objects.{latin}
use Rattle.fints_cli_json.proofs.latin.latin.Given as goal

abbrev pub invariant-loop-byte : goal.invariant-loop-byte
invariant-loop-byte l = (l.bytes ≡ l.fn.bytes) × (string_bytes l.text ≡ latin (take l.byte-index l.bytes))
