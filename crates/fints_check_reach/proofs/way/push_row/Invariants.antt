use Rattle.std.proofs.Common.{ℕ, ◌+◌, Option, List}
use Rattle.fints_wire.specs.Runs.{RouteTo}
use Rattle.fints_check_reach.specs.Ways.{EntersTo}
use Rattle.fints_check_reach.proofs.way.push_row.Given as goal

-- the answers lead on in the row
abbrev pub invariant-loop-k : goal.invariant-loop-k
invariant-loop-k l =
    (numbers : List (Option ℕ)) (e : EntersTo l.at.plan.now.script.steps numbers l.at.n l.fn.answers.items)
    → RouteTo l.at.plan.now.script.steps l.answers.items
    (record { step = l.at.n; number = e.from + l._k; times = 1 + l._k })
