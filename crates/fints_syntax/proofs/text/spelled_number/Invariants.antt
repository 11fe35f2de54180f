use Rattle.std.proofs.Common.{◌≡◌, ◌+◌, ◌^◌, ◌<◌, ◌≤◌, length}
use Rattle.std.specs.Str.{all_ascii_digits}
use Rattle.std.specs.Str.Parse.{digits_value, digits_value_after}
use Rattle.fints_syntax.proofs.text.spelled_number.Given as goal

abbrev pub invariant-loop-byte : goal.invariant-loop-byte
invariant-loop-byte l = record {
  digits : all_ascii_digits l.value ≡ all_ascii_digits l.initial.value;
  value : digits_value_after 10 l.number l.value ≡ digits_value 10 l.initial.value;
  len : l.count + length l.value ≡ length l.initial.value;
  below : l.number < 10 ^ l.count;
  within : l.count ≤ 9;
}

abbrev pub decreases-loop-byte : goal.decreases-loop-byte
decreases-loop-byte l = length l.value
