use Rattle.std.proofs.Common.{◌∙◌}
use Rattle.fints_params.specs.Captures.{IsEitherFault}
use Rattle.fints_params.proofs.Receiving.{unfinished}
use Rattle.fints_params.proofs.reader.ParamReader.finish_with_codes.Goals as goal

pub returns-clause-refused : goal.returns-clause-refused
returns-clause-refused c =
    let all = c.in_ok-progress.ensures.bytes in
    unfinished IsEitherFault c.args.self c.as_bytes.result.now c.both_in.result all.0 (c.as_bytes.ensures ∙ all.1) c.both_in.ensures.refused
