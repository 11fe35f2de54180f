use Rattle.std.proofs.Common.{◌≡◌, ◌+◌, ◌++◌, drop}
use Rattle.fints_cli_json.specs.Placed.{sizes_in}
use Rattle.fints_cli_json.proofs.audits.sizes_of.Given as goal

abbrev pub invariant-loop-i : goal.invariant-loop-i
invariant-loop-i l = l.sizes.items ++ sizes_in (l.i + 1) (drop l.i l.audited) ≡ sizes_in 1 l.audited
