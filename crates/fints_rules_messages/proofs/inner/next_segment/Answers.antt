use Rattle.fints_rules_messages.proofs.Texts.{no_segment}
use Rattle.fints_rules_messages.proofs.Fronts.{next_from}
use Rattle.fints_syntax.proofs.LawLemmas.{one_segment_text, segment_is_read}
use Rattle.fints_rules_messages.proofs.inner.next_segment.Goals as goal

pub returns-in-Ok-clause-some : goal.returns-in-Ok-clause-some
returns-in-Ok-clause-some c =
    next_from one_segment_text c.args.bytes.now c.in-Ok.view c.in-Ok.len c.in-Ok.ensures.found.0
    c.in-Ok.ensures.found.1 c.in-Ok.ensures.found.2

pub returns-in-Err-clause-none : goal.returns-in-Err-clause-none
returns-in-Err-clause-none c = no_segment segment_is_read c.args.bytes.now c.in-Err.ensures.only
