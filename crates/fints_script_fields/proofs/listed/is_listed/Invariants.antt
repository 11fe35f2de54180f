use Rattle.std.proofs.Common.{drop, ◌↔◌}
use Rattle.fints_script_fields.specs.Listed.{IsListed}
use Rattle.fints_script_fields.proofs.listed.is_listed.Given as goal

abbrev pub invariant-loop-v : goal.invariant-loop-v
invariant-loop-v g l = IsListed g.T.Listed.text l.values l.value ↔ IsListed g.T.Listed.text (drop l.v-index l.values) l.value
