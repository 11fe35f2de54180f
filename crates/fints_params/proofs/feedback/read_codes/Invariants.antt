use Rattle.std.proofs.Common.{map}
use Rattle.fints_params.specs.Feedback.{first_value}
use Rattle.fints_params.proofs.FoundCodes.{Left}
use Rattle.fints_params.proofs.feedback.read_codes.Given as goal

abbrev pub invariant-loop-i : goal.invariant-loop-i
invariant-loop-i l = Left (map first_value l.segment.elements) l.i l.codes.items l.fn.codes.items
