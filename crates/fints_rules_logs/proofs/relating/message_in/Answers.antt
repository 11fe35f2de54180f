use Rattle.std.proofs.Common.{◌≡◌, sym, ◌∙◌}
use Rattle.fints_rules_messages.specs.declared.message.JudgeFault.TheVariants.{Memory, NotAMessage}
use Rattle.fints_rules_logs.proofs.relating.message_in.Goals as goal

pub returns-in-NotAMessage-clause-none : goal.returns-in-NotAMessage-clause-none
returns-in-NotAMessage-clause-none c =
    λ m is.
    let both : Memory ≡ NotAMessage c.in-NotAMessage.offset = sym (c.in-Err.ensures.memory_alone m is) ∙ c.in-NotAMessage.is in
    absurd (cc both)
