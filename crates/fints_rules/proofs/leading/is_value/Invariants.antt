use Rattle.std.proofs.Common.{◌≡◌, drop}
use Rattle.std.specs.Str.{bytes_eq}
use Rattle.fints_syntax.specs.ItemIs.{value_of_item}
use Rattle.fints_rules.proofs.leading.is_value.Given as goal

abbrev pub invariant-loop-byte : goal.invariant-loop-byte
invariant-loop-byte l = bytes_eq l.rest (drop l.byte-index l.value) ≡ bytes_eq (value_of_item l.item) l.value
