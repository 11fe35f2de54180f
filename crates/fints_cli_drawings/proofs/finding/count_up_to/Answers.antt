use Rattle.std.proofs.Common.{rules}
use Rattle.std.proofs.Math.Dec.{leb}
use Rattle.std.proofs.lemmas.List.Sorted.{IsPartitionedBy-leb, IsPartitionPoint-from_clause}
use Rattle.fints_check_findings.specs.declared.finding.Finding.{Finding}
use Rattle.fints_cli_drawings.proofs.FoundLemmas.{rising, up_to_from}
use Rattle.fints_cli_drawings.proofs.finding.count_up_to.Goals as goal

pub returns-clause-parted : goal.returns-clause-parted
returns-clause-parted c =
    up_to_from c.args.n c.args.findings.now _
    (IsPartitionPoint-from_clause (λ (f : Finding). leb f.step c.args.n) c.args.findings.now _
    c.partition_point.ensures.partitioned
    (IsPartitionedBy-leb (λ (f : Finding). f.step) c.args.findings.now c.args.n (rising c.args.findings.now c.requires))
    (λ a r f called. search rules))
