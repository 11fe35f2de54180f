-- The laws, each with its proof, for the proofs of the crates above.
use Rattle.std.specs.Prelude.{◌≡◌, ◌+◌, ℕ, List, length}
use Rattle.fints_rules_messages.specs.Messages.{MessageView, IsMessage, IsNumbered}
use Rattle.fints_rules_messages.specs.Laws.{OneStop, NoStopInMessage, MessageOrStop, OneRefusal}
use Rattle.fints_rules_messages.proofs.Uniques.{message_one}
use Rattle.fints_rules_messages.proofs.OneStop.{one_stop, no_stop, one_refusal}
use Rattle.fints_rules_messages.proofs.SomeAnswer.{message_or_stop as neither}
use Rattle.fints_rules_messages.proofs.Numbers.{numbered_body}
use Rattle.fints_syntax.proofs.LawLemmas.{one_segment_text}

pub one_message : (bytes : List ℕ) (m n : MessageView) → IsMessage bytes m → IsMessage bytes n → m ≡ n
one_message = message_one one_segment_text

pub one_stop_place : OneStop
one_stop_place = one_stop one_segment_text

pub one_stop_not_both : NoStopInMessage
one_stop_not_both = no_stop one_segment_text

pub one_stop_refusal : OneRefusal
one_stop_refusal = one_refusal one_segment_text

pub message_or_stop : MessageOrStop
message_or_stop = neither

pub numbered_bodies : (bytes : List ℕ) (m : MessageView) → IsMessage bytes m
    → IsNumbered (2 + length m.ends) m.body
numbered_bodies = numbered_body
