-- The words by which an object names rules, causes and verdicts.
use Rattle.std.specs.Prelude.{codes, ℕ, List, Option, None, Some, ◌==◌, if◌then◌else◌}
use Rattle.fints_rules.specs.Causes.{cause_rule}
use Rattle.fints_rules.specs.Rules.{rule_number}
use Rattle.fints_rules.specs.declared.causes.Cause.{Cause}
use Rattle.fints_rules.specs.declared.causes.Cause.TheVariants as cause
use Rattle.fints_rules.specs.declared.rule.Rule.{Rule}
use Rattle.fints_rules.specs.declared.rule.Rule.TheVariants as rule

-- the number of a rule, as it is printed
abbrev pub rule_code : Rule → List ℕ
rule_code rule.Protocol = codes "P1"
rule_code rule.Number = codes "P2"
rule_code rule.Size = codes "P3"
rule_code rule.Kinds = codes "P4"
rule_code rule.Version = codes "P5"
rule_code rule.Orders = codes "P6"
rule_code rule.Listed = codes "P7"
rule_code rule.Signatures = codes "P8"
rule_code rule.Account = codes "P9"
rule_code rule.Tan = codes "P10"
rule_code rule.Release = codes "P11"
rule_code rule.Procedure = codes "P12"

-- the name of a rule, as it is printed
abbrev pub rule_word : Rule → List ℕ
rule_word rule.Protocol = codes "protocol"
rule_word rule.Number = codes "number"
rule_word rule.Size = codes "size"
rule_word rule.Kinds = codes "kinds"
rule_word rule.Version = codes "version"
rule_word rule.Orders = codes "orders"
rule_word rule.Listed = codes "listed"
rule_word rule.Signatures = codes "signatures"
rule_word rule.Account = codes "account"
rule_word rule.Tan = codes "tan"
rule_word rule.Release = codes "release"
rule_word rule.Procedure = codes "procedure"

-- the word of a cause
abbrev pub cause_word : Cause → List ℕ
cause_word cause.OtherVersion = codes "OtherVersion"
cause_word cause.NoParameters = codes "NoParameters"
cause_word cause.TooManyOrders = codes "TooManyOrders"
cause_word cause.Unlisted = codes "Unlisted"
cause_word cause.OrderNeedsMore = codes "OrderNeedsMore"
cause_word cause.AccountNeedsMore = codes "AccountNeedsMore"
cause_word cause.NoOrderRow = codes "NoOrderRow"
cause_word cause.AccountLocked = codes "AccountLocked"
cause_word cause.NoTan = codes "NoTan"
cause_word cause.NoTanSent = codes "NoTanSent"
cause_word cause.OneOrderAtATime = codes "OneOrderAtATime"
cause_word cause.NoOneStep = codes "NoOneStep"

-- the word of a rule's only cause, or of one of its causes
abbrev pub some_cause : Rule → List ℕ
some_cause rule.Protocol = codes "ProtocolUnlisted"
some_cause rule.Number = codes "NumberTooHigh"
some_cause rule.Size = codes "TooLong"
some_cause rule.Kinds = codes "TooManyKinds"
some_cause rule.Version = codes "NoParameters"
some_cause rule.Orders = codes "TooManyOrders"
some_cause rule.Listed = codes "Unlisted"
some_cause rule.Signatures = codes "OrderNeedsMore"
some_cause rule.Account = codes "AccountLocked"
some_cause rule.Tan = codes "NoTan"
some_cause rule.Release = codes "NotReleased"
some_cause rule.Procedure = codes "OneOrderAtATime"

-- the word of the cause for which a rule is broken; a cause of another rule says nothing
abbrev pub cause_in : Rule → Option Cause → List ℕ
cause_in rule None = some_cause rule
cause_in rule (Some cause) =
    if rule_number (cause_rule cause) == rule_number rule then cause_word cause else some_cause rule

-- the word of a judge's status
abbrev pub judge_word : ℕ → List ℕ
judge_word status = if status == 0 then codes "permitted" else codes "broken"

-- the word of the status of a script's report
abbrev pub clean_word : ℕ → List ℕ
clean_word status = if status == 0 then codes "clean" else codes "broken"

-- the word of the status of `verify`
abbrev pub valid_word : ℕ → List ℕ
valid_word status = if status == 0 then codes "valid" else codes "invalid"
