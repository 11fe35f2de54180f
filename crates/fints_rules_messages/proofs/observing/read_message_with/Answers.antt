use Rattle.std.proofs.Common.{subst, IfErr}
use Rattle.fints_rules_messages.specs.Messages.{CeasesAt}
use Rattle.fints_rules_messages.proofs.OneStop.{no_stop}
use Rattle.fints_syntax.proofs.LawLemmas.{one_segment_text}
use Rattle.fints_rules_messages.proofs.observing.read_message_with.Goals as goal

-- a message is refused for nothing but running out of memory
pub returns-in-Err-clause-memory_alone : goal.returns-in-Err-clause-memory_alone
returns-in-Err-clause-memory_alone g c =
    λ m is. absurd (no_stop one_segment_text _ _ m
    (subst (λ r. IfErr r (λ u. CeasesAt c.args.bytes.now u.offset)) c.in-Err.is c.in_ok-message.ensures.refusal) is)
