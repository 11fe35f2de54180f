-- What an outbox has handed on, and when it hands a message on.
use Rattle.std.specs.Prelude.{◌≡◌, ◌≢◌, ℕ, List, [], ◌∷◌, ◌++◌, Option, Some, None, slice_get, length, take, ◌-◌}
use Rattle.fints_example_outbox.specs.declared.outbox.Held.{Held}
use Rattle.fints_example_outbox.specs.declared.outbox.Held.TheVariants as held
use Rattle.fints_rules.specs.Breaks.{IsJudged, IsJudgedAfter, Permitted, PermittedAfter}
use Rattle.fints_rules.specs.JudgeFaults as faults
use Rattle.fints_rules.specs.Messages.{CeasesAt}
use Rattle.fints_rules.specs.Permits.{Granted}
use Rattle.fints_rules.specs.declared.rule.Broken.{Broken}

-- a message that was handed on, and the codes of the bank's answer that was heard before it
pub record HandedOnValue : Type 0 where
  pub message : List ℕ
  pub heard : List ℕ

-- what the bank permits, the messages that were handed on, and the codes of the bank's last answer
pub record OutboxValue : Type 0 where
  pub granted : Granted
  pub sent : List HandedOnValue
  pub codes : List ℕ

abbrev pub nothing_sent : Granted → OutboxValue
nothing_sent granted = record { granted = granted; sent = []; codes = [] }

-- one more message was handed on, and this answer was heard before it
abbrev pub with_sent : List HandedOnValue → List ℕ → List ℕ → List HandedOnValue
with_sent sent message heard = sent ++ record { message = message; heard = heard } ∷ []

abbrev pub after_sending : OutboxValue → List ℕ → OutboxValue
after_sending o message = record o { sent = with_sent o.sent message o.codes }

-- the bank permits a message after another and its answer to that, or as the first one
abbrev pub IsPermittedAfter : Granted → Option HandedOnValue → List ℕ → List ℕ → Type 0
IsPermittedAfter granted None codes message = Permitted granted message
IsPermittedAfter granted (Some before) codes message = PermittedAfter granted before.message codes message

-- the bank permits a message after the last of these and its answer to that
abbrev pub IsPermittedNext : Granted → List HandedOnValue → List ℕ → List ℕ → Type 0
IsPermittedNext granted sent codes message =
    IsPermittedAfter granted (slice_get sent (length sent - 1)) codes message

abbrev pub IsNextIn : OutboxValue → List ℕ → Type 0
IsNextIn o message = IsPermittedNext o.granted o.sent o.codes message

-- the message breaks these rules after another and the bank's answer to that, or as the first one
abbrev pub IsJudgedAs : Granted → Option HandedOnValue → List ℕ → List ℕ → List Broken → Type 0
IsJudgedAs granted None codes message broken = IsJudged granted message broken
IsJudgedAs granted (Some before) codes message broken =
    IsJudgedAfter granted before.message codes message broken

abbrev pub IsJudgedNextIn : OutboxValue → List ℕ → List Broken → Type 0
IsJudgedNextIn o message broken =
    IsJudgedAs o.granted (slice_get o.sent (length o.sent - 1)) o.codes message broken

-- why the message is held back: it breaks just these rules, one at least; or memory ran out, or it ceases there to be a message
abbrev pub IsHeldFor : OutboxValue → List ℕ → Held → Type 0
IsHeldFor o message (held.Broken broken) = (broken.items ≢ []) × IsJudgedNextIn o message broken.items
IsHeldFor o message (held.Unjudged faults.Memory) = Unit {0}
IsHeldFor o message (held.Unjudged (faults.NotAMessage offset)) = CeasesAt message offset
IsHeldFor o message (held.Unjudged (faults.NotAMessageBefore offset)) = ⊥

-- the bank permitted each of these after those before it and the answer that was heard then
abbrev pub EachWasPermitted : Granted → List HandedOnValue → Type 0
EachWasPermitted granted sent =
    (i : ℕ) (s : HandedOnValue) → slice_get sent i ≡ Some s
    → IsPermittedNext granted (take i sent) s.heard s.message
