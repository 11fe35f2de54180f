-- Accounts of one of some lists are accounts that an order may name, where all lists are such.
use Rattle.std.proofs.Common.{List, ℕ, All, subst}
use Rattle.std.proofs.lemmas.List.Elements.{All-weaker}
use Rattle.fints_rules_permissions.specs.declared.orders.OrderRow.{OrderRow}
use Rattle.fints_rules_dialogues.specs.declared.reading.Exchange.{Exchange}
use Rattle.fints_script_fields.specs.declared.field.Field.{Field}
use Rattle.fints_script_fields.specs.declared.field.Field.TheVariants as classes
use Rattle.fints_script_rows.specs.declared.fields.NamedField.{NamedField}
use Rattle.fints_script.specs.Scripts.{ScriptValue}
use Rattle.fints_cli_drafts_accounts.specs.Offers.{AreOffered, IsOffer}
use Rattle.fints_cli_drafts_accounts.specs.declared.listing.AccountList.{AccountList}
use Rattle.fints_cli_drafts.specs.Drafts.{AreAccounts, IsDraftClass, IsDraftField, KeepsSecrets}

listed_accounts : (orders : List OrderRow) (recording : List Exchange) (lists : List AccountList)
    → All (IsOffer orders recording) lists → (values : List (List (List ℕ))) → AreOffered lists values
    → AreAccounts orders recording values
listed_accounts orders recording lists all values (k, list, lt, at, same) =
    (list, subst (IsOffer orders recording) at (all k list lt), same)

class_offered : (orders : List OrderRow) (recording : List Exchange) (lists : List AccountList)
    → All (IsOffer orders recording) lists → (class : Field) → IsDraftClass (AreOffered lists) class
    → IsDraftClass (AreAccounts orders recording) class
class_offered orders recording lists all (classes.Text c) h = h
class_offered orders recording lists all (classes.Bin c) h = h
class_offered orders recording lists all (classes.OneOf c) h = h
class_offered orders recording lists all (classes.Account c) h = listed_accounts orders recording lists all c.values h

field_offered : (orders : List OrderRow) (recording : List Exchange) (lists : List AccountList)
    → All (IsOffer orders recording) lists → (f : NamedField) → IsDraftField (AreOffered lists) f
    → IsDraftField (AreAccounts orders recording) f
field_offered orders recording lists all f h = (h.0, class_offered orders recording lists all f.class h.1)

-- the fields of a script list what orders may name, where each list is one of these
pub keeps_offered : (orders : List OrderRow) (recording : List Exchange) (lists : List AccountList)
    → All (IsOffer orders recording) lists → (most : ℕ) (script : ScriptValue)
    → KeepsSecrets (AreOffered lists) most script → KeepsSecrets (AreAccounts orders recording) most script
keeps_offered orders recording lists all most script keeps = record {
  fields = All-weaker (IsDraftField (AreOffered lists)) (IsDraftField (AreAccounts orders recording))
      (field_offered orders recording lists all) script.fields keeps.fields;
  signers = keeps.signers;
  steps = keeps.steps;
}
