-- The accounts that the orders of a recording may name, each by the parameters by which its message is judged.
use Rattle.std.specs.Prelude.{◌≡◌, ◌++◌, ℕ, List, map, All, Any, Some, length, slice_get}
use Rattle.fints_syntax_segments.specs.declared.item.OwnedSegment.{OwnedSegment}
use Rattle.fints_rules_messages.specs.Messages.{MessageView}
use Rattle.fints_rules_permissions.specs.declared.orders.OrderRow.{OrderRow}
use Rattle.fints_rules_permissions.specs.Permits.{Granted}
use Rattle.fints_rules_dialogues.specs.OwnParams.{GrantsEach}
use Rattle.fints_rules_dialogues.specs.declared.reading.Exchange.{Exchange}
use Rattle.fints_cli_drafts_accounts.specs.Accounts.{ListsAll, MayHave, asked}
use Rattle.fints_cli_drafts_accounts.specs.declared.listing.AccountList.{AccountList}

-- the accounts of the list are those that the order may have, in a message with that many signatures
pub record IsListOf (granted : Granted) (signatures : ℕ) (list : AccountList) (order : OwnedSegment)
    : Type 0 where
  pub all : ListsAll (asked granted order signatures) list
  pub each : All (MayHave (asked granted order signatures)) list.values.items

-- they are those of some order of the message; each signature has an HNSHA
abbrev pub IsListIn : Granted → MessageView → AccountList → Type 0
IsListIn granted m list = Any (IsListOf granted (length m.ends) list) m.body

-- they are those of some order of these exchanges, whose messages are judged by these permissions, place by place
pub record IsOfferBy (exchanges : List Exchange) (granted : List Granted) (list : AccountList)
    : Type 0 where
  pub place : ℕ
  pub exchange : Exchange
  pub is_at : slice_get exchanges place ≡ Some exchange
  pub permitted : Granted
  pub is_permitted : slice_get granted place ≡ Some permitted
  pub list_in : IsListIn permitted exchange.message list

-- they are those of some order of the recording, by the parameters in it
abbrev pub IsOffer : List OrderRow → List Exchange → AccountList → Type 0
IsOffer orders exchanges list =
    (granted : List Granted) × GrantsEach orders exchanges granted × IsOfferBy exchanges granted list

-- the accounts of one of the lists
abbrev pub AreOffered : List AccountList → List (List (List ℕ)) → Type 0
AreOffered lists values = Any (λ list. list.values.items ≡ values) lists

-- ---- words of private contracts only

-- some lists were added, and this holds of each of them
pub record Adds (P : AccountList → Type 0) (old new : List AccountList) : Type 0 where
  pub more : List AccountList
  pub all : All P more
  pub new_is : new ≡ old ++ more
