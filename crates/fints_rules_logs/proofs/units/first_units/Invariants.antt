use Rattle.std.proofs.Common.{◌≡◌, ◌+◌, ◌-◌, ◌≤◌, length}
use Rattle.fints_rules_logs.specs.Forms.{first_units}
use Rattle.fints_rules_logs.proofs.UnitLemmas.{with_front}
use Rattle.fints_rules_logs.proofs.units.first_units.Given as goal

abbrev pub invariant-loop : goal.invariant-loop
invariant-loop l = record {
  units : with_front l.units.items (first_units l.form (l.count - l.counter) l.rest) ≡ first_units l.form l.count l.text;
  len : length l.units.items ≡ l.counter;
  shorter : length l.rest + l.counter ≤ length l.text;
}
