use Rattle.std.proofs.Common.{◌≡◌, length, map, drop, max}
use Rattle.fints_script_fields.specs.Listed.{greatest}
use Rattle.fints_script_fields.proofs.listing.most_items.Given as goal

abbrev pub invariant-loop-account : goal.invariant-loop-account
invariant-loop-account l = max l.most (greatest (map length (drop l.account-index l.accounts))) ≡ greatest (map length l.accounts)
