use Rattle.std.proofs.Common.{◌≡◌, drop}
use Rattle.fints_script_fields.specs.Listed.{first_longest}
use Rattle.fints_script_fields.specs.ListedLaws.{longest_from}
use Rattle.fints_script_fields.proofs.listed.longest_of.Given as goal

abbrev pub invariant-loop-v : goal.invariant-loop-v
invariant-loop-v g l = (none : g.row.T.Denot) → first_longest g.T.Listed.size none l.values ≡ longest_from g.T.Listed.size l.best (drop l.v-index l.values)
