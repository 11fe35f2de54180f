-- What the reader of certificates knows on its way through a text. Only private contracts use these words.
use Rattle.std.specs.Prelude.{◌≢◌, ◌≤◌, List, length}
use Rattle.std.specs.List.{All, AllPairs}
use Rattle.fints_script_fields.specs.NameSets.{HoldsNames}
use Rattle.fints_check.specs.Certificates.{line_names}
use Rattle.fints_check.specs.CertTexts.{cert_text, IsStepLine}
use Rattle.fints_syntax_texts.specs.declared.lines.TheConstants.{MAX_TEXT}
use Rattle.fints_check.specs.declared.certificate.Line.{Line}
use Rattle.fints_check.specs.declared.reading.LinesSoFar.{LinesSoFar}

-- no line has the name yet
abbrev pub IsNew : List Line → Line → Type 0
IsNew lines line = All (λ (p : Line). p.name ≢ line.name) lines

-- the lines so far: there may be none
pub record IsBegun (lines : List Line) : Type 0 where
  pub apart : AllPairs (λ (p q : Line). p.name ≢ q.name) lines
  pub each : All IsStepLine lines
  pub short : length (cert_text lines) ≤ MAX_TEXT

-- a text may go on after what was taken, in whose names each name is looked up
pub record IsReady (taken : LinesSoFar) : Type 0 where
  pub begun : IsBegun taken.lines.items
  pub names : HoldsNames (line_names taken.lines.items) taken.names
