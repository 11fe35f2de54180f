use Rattle.std.proofs.Common.{◌≡◌, drop}
use Rattle.fints_script_fields.specs.Listed.{first_shortest}
use Rattle.fints_script_fields.specs.ListedLaws.{shortest_from}
use Rattle.fints_script_fields.proofs.listed.shortest_of.Given as goal

abbrev pub invariant-loop-v : goal.invariant-loop-v
invariant-loop-v g l = (none : g.row.T.Denot) → first_shortest g.T.Listed.size none l.values ≡ shortest_from g.T.Listed.size l.best (drop l.v-index l.values)
