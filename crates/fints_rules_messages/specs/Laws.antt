-- The laws of where bytes cease to be a message. Each is the contract of a public function.
use Rattle.std.specs.Prelude.{◌≡◌, ◌≢◌, ℕ, List}
use Rattle.fints_rules_messages.specs.Messages.{MessageView, IsMessage, CeasesAt}
use Rattle.fints_rules_messages.specs.Read.{IsJudgeFault}
use Rattle.fints_rules_messages.specs.declared.message.JudgeFault.{JudgeFault}
use Rattle.fints_rules_messages.specs.declared.message.JudgeFault.TheVariants.{Memory}

-- bytes cease to be a message at one place at most
abbrev pub OneStop : Type 0
OneStop = (bytes : List ℕ) (a b : ℕ) → CeasesAt bytes a → CeasesAt bytes b → a ≡ b

-- a message ceases nowhere to be one
abbrev pub NoStopInMessage : Type 0
NoStopInMessage = (bytes : List ℕ) (a : ℕ) (m : MessageView) → CeasesAt bytes a → IsMessage bytes m → ⊥

-- bytes are a message, or cease somewhere to be one: it can't be that they do neither
abbrev pub MessageOrStop : Type 0
MessageOrStop =
    (bytes : List ℕ) → ((m : MessageView) → IsMessage bytes m → ⊥) → ((a : ℕ) → CeasesAt bytes a → ⊥) → ⊥

-- bytes have one refusal at most, apart from running out of memory
abbrev pub OneRefusal : Type 0
OneRefusal =
    (bytes : List ℕ) (f g : JudgeFault) → IsJudgeFault bytes f → IsJudgeFault bytes g → f ≢ Memory
    → g ≢ Memory → f ≡ g
