-- The laws of logs. Each is the contract of a public function.
use Rattle.std.specs.Prelude.{◌≡◌, ℕ, List}
use Rattle.fints_rules_logs.specs.Kept.{IsLog, IsLogFault, LogValue}
use Rattle.fints_rules_logs.specs.declared.fault.LogFault.{LogFault}
use Rattle.fints_rules_logs.specs.declared.fault.LogFault.TheVariants.{Memory}

-- a file is one log at most: the same messages, at the same places in the same forms, and as many passed over
abbrev pub OneLog : Type 0
OneLog = (file : List ℕ) (a b : LogValue) → IsLog file a → IsLog file b → a ≡ b

-- it has one refusal at most, apart from an allocation that fails
abbrev pub OneLogFault : Type 0
OneLogFault =
    (file : List ℕ) (f g : LogFault) → IsLogFault file f → IsLogFault file g → (f ≡ Memory → ⊥)
    → (g ≡ Memory → ⊥) → f ≡ g

-- it is never a log and refused
abbrev pub NoLogAtFault : Type 0
NoLogAtFault =
    (file : List ℕ) (log : LogValue) (f : LogFault) → IsLog file log → IsLogFault file f → (f ≡ Memory → ⊥)
    → ⊥
