use Rattle.std.proofs.Common.{◌≡◌, [], drop}
use Rattle.fints_script_fields.specs.Listed.{account_text, first_with}
use Rattle.fints_wire.proofs.filling.account_items.Given as goal

abbrev pub invariant-loop-account : goal.invariant-loop-account
invariant-loop-account l = first_with account_text [] (drop l.account-index l.accounts) l.value ≡ first_with account_text [] l.accounts l.value
