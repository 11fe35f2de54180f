use Rattle.std.proofs.Common.{sym}
use Rattle.fints_cli_drawings.proofs.FoundLemmas.{found_between}
use Rattle.fints_cli_drawings.proofs.finding.found_at.Goals as goal

pub slice_bounds-result-start : goal.slice_bounds-result-start
slice_bounds-result-start c =
    (found_between c.args.n c.args.findings.now c.count_before-from.result c.count_up_to-to.result
    c.count_before-from.ensures.parted c.count_up_to-to.ensures.parted c.count_before-from.ensures.within
    c.count_up_to-to.ensures.within).0

pub slice_bounds-result-count : goal.slice_bounds-result-count
slice_bounds-result-count c =
    (found_between c.args.n c.args.findings.now c.count_before-from.result c.count_up_to-to.result
    c.count_before-from.ensures.parted c.count_up_to-to.ensures.parted c.count_before-from.ensures.within
    c.count_up_to-to.ensures.within).0

pub returns : goal.returns
returns c =
    sym (found_between c.args.n c.args.findings.now c.count_before-from.result c.count_up_to-to.result
    c.count_before-from.ensures.parted c.count_up_to-to.ensures.parted c.count_before-from.ensures.within
    c.count_up_to-to.ensures.within).1
