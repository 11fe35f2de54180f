-- Lists that are added to others.
use Rattle.std.proofs.Common.{◌≡◌, ℕ, List, [], ◌++◌, length, All, Any, ap, sym, ◌∙◌, subst}
use Rattle.std.proofs.lemmas.List.{append-nil, append_assoc}
use Rattle.std.proofs.lemmas.List.Elements.{All-append, All-nil, All-weaker}
use Rattle.fints_syntax_segments.specs.declared.item.OwnedSegment.{OwnedSegment}
use Rattle.fints_rules_messages.specs.Messages.{MessageView}
use Rattle.fints_rules_permissions.specs.Permits.{Granted}
use Rattle.fints_cli_drafts_accounts.specs.Offers.{Adds, IsListIn, IsListOf}
use Rattle.fints_cli_drafts_accounts.specs.declared.listing.AccountList.{AccountList}

-- nothing is added
pub adds_none : (P : AccountList → Type 0) (lists : List AccountList) → Adds P lists lists
adds_none P lists = record { more = []; all = All-nil P; new_is = sym (append-nil lists) }

-- what is added in two steps is added
pub adds_more : (P : AccountList → Type 0) (a b c : List AccountList) → Adds P a b → Adds P b c → Adds P a c
adds_more P a b c one two = record {
  more = one.more ++ two.more;
  all = All-append P one.more two.more one.all two.all;
  new_is = two.new_is ∙ ap (λ front. front ++ two.more) one.new_is ∙ append_assoc a one.more two.more;
}

-- what is added is of a kind that is wider
pub adds_wider : (P Q : AccountList → Type 0) (f : (list : AccountList) → P list → Q list) (a b : List AccountList)
    → Adds P a b → Adds Q a b
adds_wider P Q f a b added = record {
  more = added.more;
  all = All-weaker P Q f added.more added.all;
  new_is = added.new_is;
}

-- with what is added, all are of that kind
pub all_added : (P : AccountList → Type 0) (a b : List AccountList) → All P a → Adds P a b → All P b
all_added P a b before added = subst (All P) (sym added.new_is) (All-append P a added.more before added.all)

-- the lists of some segments in the body of a message are lists of the message
pub listed_in : (granted : Granted) (m : MessageView) (items : List OwnedSegment) (signatures : ℕ) → items ≡ m.body
    → signatures ≡ length m.ends → (a b : List AccountList)
    → Adds (λ list. Any (IsListOf granted signatures list) items) a b → Adds (IsListIn granted m) a b
listed_in granted m items signatures body ends a b added =
    subst (λ n. Adds (λ list. Any (IsListOf granted n list) m.body) a b) ends
    (subst (λ xs. Adds (λ list. Any (IsListOf granted signatures list) xs) a b) body added)
