-- The laws of recorded dialogues. Each is the contract of a public function.
use Rattle.std.specs.Prelude.{◌≡◌, ℕ, Bool, List, Option, Some, None, map}
use Rattle.fints_rules_messages.specs.Messages.{MessageView}
use Rattle.fints_rules_permissions.specs.declared.orders.OrderRow.{OrderRow}
use Rattle.fints_rules_dialogues.specs.declared.auditing.Audited.{Audited}
use Rattle.fints_rules_dialogues.specs.declared.fault.DialogueFault.{DialogueFault}
use Rattle.fints_rules_dialogues.specs.declared.reading.Answer.{Answer}
use Rattle.fints_rules_dialogues.specs.declared.reading.Exchange.{Exchange}
use Rattle.fints_rules_dialogues.specs.Auditing.{IsOwnAudit}
use Rattle.fints_rules_dialogues.specs.Dialogues.{IsDialogue, IsDialogueFault}
use Rattle.fints_rules_dialogues.specs.OwnParams.{IsOwnParamsFault}

-- an answer's start, its bytes and its codes
abbrev pub answer_values : Option Answer → Option (ℕ × List ℕ × List ℕ)
answer_values None = None
answer_values (Some a) = Some (a.sent.start, a.sent.bytes.now, a.codes.items)

-- where the message of an exchange is, its bytes and what they are as a message, the answer, and whether it begins
-- a dialogue
abbrev pub exchange_values : Exchange → ℕ × List ℕ × MessageView × Option (ℕ × List ℕ × List ℕ) × Bool
exchange_values e = (e.sent.start, e.sent.bytes.now, e.message, answer_values e.answer, e.begins)

-- a file is one recording at most: it has the same exchanges, at the same places
abbrev pub OneDialogue : Type 0
OneDialogue =
    (file : List ℕ) (a b : List Exchange) → IsDialogue file a → IsDialogue file b
    → map exchange_values a ≡ map exchange_values b

-- it has one first refusal at most
abbrev pub OneDialogueFault : Type 0
OneDialogueFault =
    (file : List ℕ) (f g : DialogueFault) → IsDialogueFault file f → IsDialogueFault file g → f ≡ g

-- it is never a dialogue and refused
abbrev pub NoDialogueAtFault : Type 0
NoDialogueAtFault =
    (file : List ℕ) (exchanges : List Exchange) (f : DialogueFault) → IsDialogue file exchanges
    → IsDialogueFault file f → ⊥

-- a file that is a recording is never audited by the parameters in its own answers and refused for them
abbrev pub NoAuditAtFault : Type 0
NoAuditAtFault =
    (file : List ℕ) (orders : List OrderRow) (a b : List Exchange) (audited : List Audited)
    (f : DialogueFault) → IsDialogue file a → IsDialogue file b → IsOwnAudit orders a audited
    → IsOwnParamsFault b f → ⊥
