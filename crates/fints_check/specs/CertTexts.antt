-- Certificates and their texts.
use Rattle.std.specs.Prelude.{ℕ, ◌≡◌, ◌≢◌, ◌<◌, ◌≤◌, Option, Some, None, List, ◌∷◌, ◌++◌, codes, length, map}
use Rattle.std.specs.List.{All, AllPairs}
use Rattle.std.specs.Fmt.{decimal}
use Rattle.fints_script_fields.specs.Names.{IsName}
use Rattle.fints_syntax_texts.specs.Lines.{text_of_lines, IsFirstBadLineOf}
use Rattle.fints_check_findings.specs.declared.finding.Reached.{Reached}
use Rattle.fints_check.specs.declared.certificate.Line.{Line}
use Rattle.fints_check.specs.declared.cert_fault.CertFault.{CertFault}
use Rattle.fints_syntax_texts.specs.declared.lines.TheConstants.{MAX_TEXT}
use Rattle.fints_check.specs.declared.cert_fault.CertFault.TheVariants.{Bad, Memory}

-- ---- the text

-- number and size, or `-` where no run sends the step
abbrev pub figures_text : Option Reached → List ℕ
figures_text None = codes "-"
figures_text (Some figures) = decimal figures.number ++ 32 ∷ decimal figures.size

abbrev pub step_text : Line → List ℕ
step_text line = codes "step " ++ (line.name ++ 32 ∷ figures_text line.reached)

-- the lines, without their line feeds
abbrev pub cert_lines : List Line → List (List ℕ)
cert_lines lines = codes "fints-cert 2" ∷ map step_text lines

abbrev pub cert_text : List Line → List ℕ
cert_text lines = text_of_lines (cert_lines lines)

-- ---- which text denotes which certificate

-- a number of 1 to 9 digits, at least 1
abbrev pub IsFigure : ℕ → Type 0
IsFigure n = (1 ≤ n) × (n < 1000000000)

abbrev pub AreShown : Option Reached → Type 0
AreShown None = Unit {0}
AreShown (Some figures) = IsFigure figures.number × IsFigure figures.size

-- a name and figures
abbrev pub IsStepLine : Line → Type 0
IsStepLine line = IsName line.name × AreShown line.reached

-- a certificate whose text can be read: it has a line, and no name twice
pub record IsCertificate (lines : List Line) : Type 0 where
  pub some : 0 < length lines
  pub apart : AllPairs (λ (p q : Line). p.name ≢ q.name) lines
  pub each : All IsStepLine lines
  pub short : length (cert_text lines) ≤ MAX_TEXT

-- the text denotes this certificate
abbrev pub IsCertificateOf : List ℕ → List Line → Type 0
IsCertificateOf text lines = IsCertificate lines × (text ≡ cert_text lines)

-- it denotes no two
abbrev pub OneCertificate : List ℕ → Type 0
OneCertificate text =
    (lines others : List Line) → IsCertificateOf text lines → IsCertificateOf text others → lines ≡ others

-- ---- which line is refused

-- these are the lines of a certificate
pub record AreCertLines (all : List (List ℕ)) : Type 0 where
  pub lines : List Line
  pub is : IsCertificate lines
  pub same : all ≡ cert_lines lines

-- the text is no certificate, and its n-th line is the first that is none of one
abbrev pub IsFirstBadCertLine : List ℕ → ℕ → Type 0
IsFirstBadCertLine text n = IsFirstBadLineOf AreCertLines text n

-- a text is a certificate, or some line of it is the first bad one: it can't be that it is neither
abbrev pub CertificateOrBadLine : List ℕ → Type 0
CertificateOrBadLine text =
    ((lines : List Line) → IsCertificateOf text lines → ⊥) → ((n : ℕ) → IsFirstBadCertLine text n → ⊥) → ⊥

abbrev pub IsCertFault : List ℕ → CertFault → Type 0
IsCertFault text (Bad line) = IsFirstBadCertLine text line
IsCertFault text Memory = Unit {0}
