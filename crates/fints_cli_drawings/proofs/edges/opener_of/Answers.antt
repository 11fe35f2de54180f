use Rattle.fints_cli_drawings.proofs.OpenerLemmas.{opener_is}
use Rattle.fints_cli_drawings.proofs.edges.opener_of.Goals as goal

pub returns : goal.returns
returns c =
    opener_is c.args.step.now.branches c.args.branch c.opener.result c.requires.from c.requires.to
    c.opener.ensures.open c.opener.ensures.least
