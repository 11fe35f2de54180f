use Rattle.std.proofs.Common.{rules}
use Rattle.std.proofs.Math.Dec.{ltb}
use Rattle.std.proofs.lemmas.List.Sorted.{IsPartitionedBy-ltb, IsPartitionPoint-from_clause}
use Rattle.fints_check_findings.specs.declared.finding.Finding.{Finding}
use Rattle.fints_cli_drawings.proofs.FoundLemmas.{below_from, rising}
use Rattle.fints_cli_drawings.proofs.finding.count_before.Goals as goal

pub returns-clause-parted : goal.returns-clause-parted
returns-clause-parted c =
    below_from c.args.n c.args.findings.now _
    (IsPartitionPoint-from_clause (λ (f : Finding). ltb f.step c.args.n) c.args.findings.now _
    c.partition_point.ensures.partitioned
    (IsPartitionedBy-ltb (λ (f : Finding). f.step) c.args.findings.now c.args.n (rising c.args.findings.now c.requires))
    (λ a r f called. search rules))
