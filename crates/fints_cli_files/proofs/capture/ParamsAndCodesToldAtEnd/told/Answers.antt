use Rattle.fints_cli_files.proofs.CaptureLemmas.{both_end}
use Rattle.fints_cli_files.proofs.capture.ParamsAndCodesToldAtEnd.told.Goals as goal

pub returns : goal.returns
returns c =
    λ bytes h.
    both_end c.args.reader c.finish_with_codes.result c.finish_with_codes.ensures.rows c.finish_with_codes.ensures.codes
    c.finish_with_codes.ensures.refused bytes h
