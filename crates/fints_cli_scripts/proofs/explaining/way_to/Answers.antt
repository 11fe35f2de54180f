use Rattle.fints_cli_scripts.proofs.CaseLemmas.{way_of}
use Rattle.fints_cli_scripts.proofs.explaining.way_to.Goals as goal

pub returns-then-is_way_of : goal.returns-then-is_way_of
returns-then-is_way_of c =
    let h = c.is_way_of.ensures c.if-is_way_of.true in way_of c.args.report.now c.args.finding
    c.args.way.items c.args.at h.0 h.1 c.requires.at_hand
