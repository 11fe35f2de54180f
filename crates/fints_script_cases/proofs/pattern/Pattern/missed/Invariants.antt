use Rattle.std.proofs.Common.{ℕ, ◌<◌, ◌≡◌, get_or, true}
use Rattle.fints_script_cases.specs.Patterns.{fits}
use Rattle.fints_script_cases.proofs.pattern.Pattern.missed.Given as goal

abbrev pub invariant-loop-place : goal.invariant-loop-place
invariant-loop-place l = (k : ℕ) → k < l.place → fits (get_or l.self k 0) (get_or l.digits k 0) ≡ true
