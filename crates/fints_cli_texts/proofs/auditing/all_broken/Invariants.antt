use Rattle.std.proofs.Common.{◌≡◌, take}
use Rattle.fints_cli_texts.specs.Audit.{all_broken}
use Rattle.fints_cli_texts.proofs.auditing.all_broken.Given as goal

abbrev pub invariant-loop-one : goal.invariant-loop-one
invariant-loop-one l = l.broken.items ≡ all_broken (take l.one-index l.audited)
