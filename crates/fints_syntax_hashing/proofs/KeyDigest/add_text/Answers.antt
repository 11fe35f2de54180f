use Rattle.std.proofs.Common.{◌++◌, subst}
use Rattle.sha2.specs.Hashers.{Holds256}
use Rattle.fints_syntax_hashing.proofs.KeyDigest.add_text.Goals as goal

pub returns : goal.returns
returns c bytes h =
    subst (λ long. Holds256 c.update-2.new.self (bytes ++ long ++ c.args.key.now)) c.to_le_bytes.ensures
    (c.update-2.ensures _ (c.update.ensures bytes h))
