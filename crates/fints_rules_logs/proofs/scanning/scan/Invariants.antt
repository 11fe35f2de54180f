use Rattle.std.proofs.Common.{◌-◌, length}
use Rattle.fints_rules_logs.proofs.ScanLemmas.{IsScannedTo}
use Rattle.fints_rules_logs.proofs.scanning.scan.Given as goal

abbrev pub invariant-loop-start : goal.invariant-loop-start
invariant-loop-start l = IsScannedTo l.file l.start l.finds.items

abbrev pub decreases-loop-start : goal.decreases-loop-start
decreases-loop-start l = length l.file - l.start
