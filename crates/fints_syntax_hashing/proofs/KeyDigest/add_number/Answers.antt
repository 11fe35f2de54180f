use Rattle.std.proofs.Common.{◌++◌, subst}
use Rattle.sha2.specs.Hashers.{Holds256}
use Rattle.fints_syntax_hashing.proofs.KeyDigest.add_number.Goals as goal

pub returns : goal.returns
returns c bytes h = subst (λ key. Holds256 c.update.new.self (bytes ++ key)) c.to_le_bytes.ensures (c.update.ensures bytes h)
