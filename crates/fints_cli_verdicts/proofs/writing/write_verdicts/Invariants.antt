use Rattle.std.proofs.Common.{◌≡◌, ◌+◌, ◌++◌, string_bytes, drop, map}
use Rattle.fints_cli_verdicts.specs.Verdicts.{verdicts_from}
use Rattle.fints_cli_verdicts.proofs.writing.write_verdicts.Given as goal

abbrev pub invariant-loop-i : goal.invariant-loop-i
invariant-loop-i l =
    string_bytes l.text ++ verdicts_from (l.i + 1) (map (λ broken. broken.items) (drop l.i l.all))
    ≡ string_bytes l.initial.text ++ verdicts_from 1 (map (λ broken. broken.items) l.all)
