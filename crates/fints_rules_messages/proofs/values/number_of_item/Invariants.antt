use Rattle.std.proofs.Common.{◌≡◌, ◌+◌, ◌^◌, ◌<◌, ◌≤◌, length}
use Rattle.std.specs.Str.{all_ascii_digits}
use Rattle.std.specs.Str.Parse.{digits_value, digits_value_after}
use Rattle.fints_syntax.specs.ItemIs.{value_of_item}
use Rattle.fints_rules_messages.proofs.values.number_of_item.Given as goal

abbrev pub invariant-loop-byte : goal.invariant-loop-byte
invariant-loop-byte l = record {
  digits : all_ascii_digits l.value ≡ all_ascii_digits (value_of_item l.item);
  value : digits_value_after 10 l.number l.value ≡ digits_value 10 (value_of_item l.item);
  len : l.count + length l.value ≡ length (value_of_item l.item);
  below : l.number < 10 ^ l.count;
  within : l.count ≤ l.most;
}

abbrev pub decreases-loop-byte : goal.decreases-loop-byte
decreases-loop-byte l = length l.value
