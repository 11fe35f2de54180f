-- Which rules each message of the client breaks, after the message before it in its dialogue and the bank's answer
-- to that.
use Rattle.std.specs.Prelude.{◌≡◌, ℕ, List, [], ◌∷◌, map, if◌then◌else◌, Option, Some, None}
use Rattle.fints_rules.specs.declared.rule.Broken.{Broken}
use Rattle.fints_rules.specs.Breaks.{IsJudged, IsJudgedAfter, Permitted, PermittedAfter}
use Rattle.fints_rules_permissions.specs.Permits.{Granted}
use Rattle.fints_rules_permissions.specs.declared.orders.OrderRow.{OrderRow}
use Rattle.fints_rules_dialogues.specs.declared.auditing.Audited.{Audited}
use Rattle.fints_rules_dialogues.specs.OwnParams.{GrantsEach}
use Rattle.fints_rules_dialogues.specs.Dialogues.{AreInTurn, IsExchange}
use Rattle.fints_rules_dialogues.specs.declared.messages.RecordedMessage.{RecordedMessage}
use Rattle.fints_rules_dialogues.specs.declared.reading.Answer.{Answer}
use Rattle.fints_rules_dialogues.specs.declared.reading.Exchange.{Exchange}

abbrev pub codes_told : Option Answer → List ℕ
codes_told None = []
codes_told (Some a) = a.codes.items

-- the exchange before this one in its dialogue, by the one before it in the file
abbrev pub before_in : Option Exchange → Exchange → Option Exchange
before_in before e = if e.begins then None else before

-- these are the rules that the message breaks: the first of a dialogue by itself, another after the exchange before
abbrev pub IsJudgedNext : Granted → Option Exchange → List ℕ → List Broken → Type 0
IsJudgedNext granted None bytes broken = IsJudged granted bytes broken
IsJudgedNext granted (Some e) bytes broken =
    IsJudgedAfter granted e.sent.bytes.now (codes_told e.answer) bytes broken

-- the exchange is audited so: its message, whether it begins a dialogue, and the rules that it breaks
pub record IsAuditedNext (granted : Granted) (before : Option Exchange) (e : Exchange) (a : Audited)
    : Type 0 where
  pub sent : a.sent ≡ e.sent
  pub begins : a.begins ≡ e.begins
  pub judged : IsJudgedNext granted (before_in before e) e.sent.bytes.now a.broken.items

-- the same of each exchange, by its own permissions; the first exchange comes after that one
abbrev pub AreAuditedAfter : List Granted → Option Exchange → List Exchange → List Audited → Type 0
AreAuditedAfter [] before [] audited = audited ≡ []
AreAuditedAfter [] before (e ∷ es) audited = ⊥
AreAuditedAfter (g ∷ gs) before [] audited = ⊥
AreAuditedAfter (g ∷ gs) before (e ∷ es) [] = ⊥
AreAuditedAfter (g ∷ gs) before (e ∷ es) (a ∷ more) =
    IsAuditedNext g before e a × AreAuditedAfter gs (Some e) es more

-- the messages of a recording, each with the rules that it breaks by its permissions
abbrev pub AreAudited : List Granted → List Exchange → List Audited → Type 0
AreAudited granted exchanges audited = AreAuditedAfter granted None exchanges audited

-- the same permissions for each
abbrev pub same_for : Granted → List Exchange → List Granted
same_for granted exchanges = map (λ e. granted) exchanges

-- the bank permits the message: the first of a dialogue by itself, another after the exchange before
abbrev pub IsPermittedNext : Granted → Option Exchange → List ℕ → Type 0
IsPermittedNext granted None bytes = Permitted granted bytes
IsPermittedNext granted (Some e) bytes = PermittedAfter granted e.sent.bytes.now (codes_told e.answer) bytes

-- the same of the message of each exchange by its own permissions, the first after that one
abbrev pub ArePermittedNext : List Granted → Option Exchange → List Exchange → Type 0
ArePermittedNext [] before [] = Unit {0}
ArePermittedNext [] before (e ∷ es) = ⊥
ArePermittedNext (g ∷ gs) before [] = ⊥
ArePermittedNext (g ∷ gs) before (e ∷ es) =
    IsPermittedNext g (before_in before e) e.sent.bytes.now × ArePermittedNext gs (Some e) es

-- the bank permits each message of the client in a recording, after those before it in its dialogue
abbrev pub ArePermitted : List Granted → List Exchange → Type 0
ArePermitted granted exchanges = ArePermittedNext granted None exchanges

-- the messages are those of a recording, each of the client's with the rules that it breaks
abbrev pub AreAuditedInTurn : Granted → List RecordedMessage → List Audited → Type 0
AreAuditedInTurn granted messages audited =
    (exchanges : List Exchange) × AreInTurn messages exchanges []
    × AreAudited (same_for granted exchanges) exchanges audited

-- they are audited by the parameters in the recording's own answers, with an order table
abbrev pub IsOwnAudit : List OrderRow → List Exchange → List Audited → Type 0
IsOwnAudit orders exchanges audited =
    (granted : List Granted) × GrantsEach orders exchanges granted × AreAudited granted exchanges audited

-- ---- of private contracts and proofs only

abbrev pub IsExchangeOrNone : Option Exchange → Type 0
IsExchangeOrNone None = Unit {0}
IsExchangeOrNone (Some e) = IsExchange e
