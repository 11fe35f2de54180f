-- What an account value keeps inside. Only the model of `AccountValue` cites these words.
use Rattle.std.specs.Prelude.{◌≡◌, List, ℕ}
use Rattle.fints_script_fields.specs.Listed.{account_text}
use Rattle.fints_script_fields.specs.declared.listed.AccountValue.TheInside.{Inside}

abbrev pub kept_items : Inside → List (List ℕ)
kept_items a = a.items.items

-- the text is kept beside the items
abbrev pub IsAccountValue : Inside → Type 0
IsAccountValue a = a.text ≡ account_text a.items.items
