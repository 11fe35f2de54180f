-- What a digest of keys has taken.
use Rattle.std.specs.Prelude.{ℕ, List}
use Rattle.sha2.specs.Hashers.{Holds256}
use Rattle.fints_syntax_hashing.specs.declared.KeyDigest.{KeyDigest}

-- the digest is that of these bytes
abbrev pub IsDigestOf : KeyDigest → List ℕ → Type 0
IsDigestOf digest bytes = Holds256 digest.keys bytes
