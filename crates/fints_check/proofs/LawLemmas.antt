-- The laws, each with its proof, for the proofs of the crates above.
use Rattle.std.specs.Prelude.{◌≡◌, ℕ, List}
use Rattle.fints_check.specs.CertTexts.{CertificateOrBadLine, OneCertificate, IsFirstBadCertLine, AreCertLines}
use Rattle.fints_check.specs.Laws.{ClosedIsPermitted, ClosedKeepsPromise, GreatestIsClosed, GreatestIsReadable}
use Rattle.fints_syntax_texts.specs.LineLaws as texts
use Rattle.fints_check.proofs.CertLines.{cert_without}
use Rattle.fints_check.proofs.Promising as promising
use Rattle.fints_check.proofs.Closing.{closes}
use Rattle.fints_check.proofs.Readable.{greatest_readable}
use Rattle.fints_check.proofs.CertReads as reads

pub one_bad_line : (text : List ℕ) (n m : ℕ) → IsFirstBadCertLine text n → IsFirstBadCertLine text m → n ≡ m
one_bad_line = texts.one_bad_line AreCertLines cert_without

pub closed_promises_promise : ClosedKeepsPromise
closed_promises_promise = promising.promise

pub closed_promises_permitted : ClosedIsPermitted
closed_promises_permitted = promising.permits

pub greatest_closes : GreatestIsClosed
greatest_closes granted script lines sound names figures = closes granted script lines sound figures names

pub greatest_are_readable : GreatestIsReadable
greatest_are_readable script lines sound same names figures = greatest_readable script sound lines same names figures

pub one_certificate : (text : List ℕ) → OneCertificate text
one_certificate = reads.one_certificate

pub certificate_or_bad_line : (text : List ℕ) → CertificateOrBadLine text
certificate_or_bad_line = reads.certificate_or_bad_line
