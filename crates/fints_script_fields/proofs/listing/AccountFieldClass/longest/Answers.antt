use Rattle.std.proofs.Common.{rules}
use Rattle.fints_script_fields.proofs.listing.AccountFieldClass.longest.Goals as goal

pub returns : goal.returns
returns c = search rules
