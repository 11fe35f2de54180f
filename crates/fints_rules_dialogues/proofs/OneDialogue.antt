-- A file is one dialogue at most, and has one first refusal at most, and never both.
use Rattle.std.proofs.Common.{◌≡◌, ℕ, List, map, refl, ap, sym, ◌∙◌, inl, inr}
use Rattle.fints_rules_logs.specs.Kept.{IsLog, LogValue}
use Rattle.fints_rules_logs.specs.declared.fault.LogFault.TheVariants as log
use Rattle.fints_rules_logs.proofs.LogLaws.{no_log_at_fault, one_log, one_log_fault}
use Rattle.fints_rules_dialogues.specs.declared.messages.RecordedMessage.{RecordedMessage}
use Rattle.fints_rules_dialogues.specs.declared.fault.DialogueFault.{DialogueFault}
use Rattle.fints_rules_dialogues.specs.declared.fault.DialogueFault.TheVariants as fault
use Rattle.fints_rules_dialogues.specs.Dialogues.{AreSent, IsFileFault}
use Rattle.fints_rules_dialogues.specs.Laws.{NoDialogueAtFault, OneDialogue, OneDialogueFault}
use Rattle.fints_rules_dialogues.proofs.OneTurn.{AllSame, all_same, no_turn_at_fault, one_turn, one_turn_fault}

-- two lists of the messages of one log are at the same places, with the same bytes
same_messages : (one other : LogValue) (a b : List RecordedMessage) → one ≡ other → AreSent one a → AreSent other b
    → AllSame a b
same_messages one other a b e h g =
    all_same a b (h.0 ∙ ap (λ l. map (λ f. f.start) l.kept) e ∙ sym g.0)
    (h.1 ∙ ap (λ l. map (λ f. f.bytes) l.kept) e ∙ sym g.1)

pub one_dialogue : OneDialogue
one_dialogue file a b (l, is, h) (k, same, g) =
    one_turn h.messages g.messages a b
    (same_messages l k h.messages g.messages (one_log file l k is same) h.sent g.sent) h.in_turn g.in_turn

-- ---- refusals

one_file_fault : (file : List ℕ) (f g : DialogueFault) → IsFileFault file f → IsFileFault file g → f ≡ g
one_file_fault file fault.NoMessage fault.NoMessage h i = refl
one_file_fault file fault.NoMessage (fault.NotAMessage b) h i =
    absurd (let e = one_log_fault file log.NoMessage (log.NotAMessage b) h i (λ x. cc) (λ x. cc) in cc e)
one_file_fault file (fault.NotAMessage a) fault.NoMessage h i =
    absurd (let e = one_log_fault file (log.NotAMessage a) log.NoMessage h i (λ x. cc) (λ x. cc) in cc e)
one_file_fault file (fault.NotAMessage a) (fault.NotAMessage b) h i =
    let e = one_log_fault file (log.NotAMessage a) (log.NotAMessage b) h i (λ x. cc) (λ x. cc) in
    let same : a ≡ b = cc e in
    ap (λ (k : ℕ). fault.NotAMessage k) same
one_file_fault file fault.Memory g h i = absurd h
one_file_fault file (fault.NotInTurn a) g h i = absurd h
one_file_fault file (fault.Answer a k) g h i = absurd h
one_file_fault file fault.NoParameters g h i = absurd h
one_file_fault file f fault.Memory h i = absurd i
one_file_fault file f (fault.NotInTurn b) h i = absurd i
one_file_fault file f (fault.Answer b k) h i = absurd i
one_file_fault file f fault.NoParameters h i = absurd i

-- a file that is refused as a whole is no log
no_log : (file : List ℕ) (f : DialogueFault) (l : LogValue) → IsFileFault file f → IsLog file l → ⊥
no_log file fault.NoMessage l h is = no_log_at_fault file l log.NoMessage is h (λ x. cc)
no_log file (fault.NotAMessage a) l h is = no_log_at_fault file l (log.NotAMessage a) is h (λ x. cc)
no_log file fault.Memory l h is = absurd h
no_log file (fault.NotInTurn a) l h is = absurd h
no_log file (fault.Answer a k) l h is = absurd h
no_log file fault.NoParameters l h is = absurd h

pub one_dialogue_fault : OneDialogueFault
one_dialogue_fault file f g (inl h) (inl i) = one_file_fault file f g h i
one_dialogue_fault file f g (inl h) (inr (l, is, turn)) = absurd (no_log file f l h is)
one_dialogue_fault file f g (inr (l, is, turn)) (inl i) = absurd (no_log file g l i is)
one_dialogue_fault file f g (inr (l, is, (ms, sent, turn))) (inr (k, same, (ns, other, back))) =
    one_turn_fault ms ns f g (same_messages l k ms ns (one_log file l k is same) sent other) turn back

pub no_dialogue_at_fault : NoDialogueAtFault
no_dialogue_at_fault file exchanges f (l, is, h) (inl i) = no_log file f l i is
no_dialogue_at_fault file exchanges f (l, is, h) (inr (k, same, (ns, other, turn))) =
    no_turn_at_fault h.messages ns exchanges f
    (same_messages l k h.messages ns (one_log file l k is same) h.sent other) h.in_turn turn
