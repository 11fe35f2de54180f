use Rattle.std.proofs.Common.{sym, subst}
use Rattle.fints_cli_files.specs.Captures.{AreKept, FedReader, HoldsCapture, HasTaken}
use Rattle.fints_cli_files.proofs.CaptureLemmas.{met_fault}
use Rattle.fints_cli_files.proofs.capture.Capture.end.Goals as goal

pub returns-in-Some-clause-read : goal.returns-in-Some-clause-read
returns-in-Some-clause-read g c =
    λ bytes h.
    g.met.T.ToldAtEnd.refused bytes c.in-Some.fault
    (met_fault c.self.inside.reader c.self.inside.fault c.in-Some.fault c.in-Some.is bytes
    (subst (HoldsCapture bytes) (sym c.self.view_is) h).0)

pub returns-in-Some-clause-kept : goal.returns-in-Some-clause-kept
returns-in-Some-clause-kept g c =
    λ bytes h.
    subst (λ (f : FedReader). AreKept f.keeps bytes c.self.inside.bytes.items) c.self.view_is
    (subst (HoldsCapture bytes) (sym c.self.view_is) h).1

pub returns-in-None-clause-read : goal.returns-in-None-clause-read
returns-in-None-clause-read g c =
    λ bytes h.
    c.told.ensures bytes
    (subst (HasTaken bytes c.self.inside.reader) c.in-None.is
    (subst (HoldsCapture bytes) (sym c.self.view_is) h).0)
