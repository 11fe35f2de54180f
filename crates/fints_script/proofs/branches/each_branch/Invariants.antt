use Rattle.std.proofs.Common.{map, take}
use Rattle.toml.specs.View.{view}
use Rattle.fints_script_rows.specs.Parts.{Gives, each}
use Rattle.fints_script.specs.Steps.{branch_in}
use Rattle.fints_script.proofs.branches.each_branch.Given as goal

abbrev pub invariant-loop-branch : goal.invariant-loop-branch
invariant-loop-branch l = Gives (λ v. v.items) l.read (each (branch_in (map view l.at.rows.now) l.at.row) (map view (take l.branch-index l.branches)))
