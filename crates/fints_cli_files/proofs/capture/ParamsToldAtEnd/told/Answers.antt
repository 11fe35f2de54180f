use Rattle.fints_cli_files.proofs.CaptureLemmas.{read_end}
use Rattle.fints_cli_files.proofs.capture.ParamsToldAtEnd.told.Goals as goal

pub returns : goal.returns
returns c =
    λ bytes h.
    read_end c.args.reader c.finish.result c.finish.ensures.rows c.finish.ensures.refused bytes h
