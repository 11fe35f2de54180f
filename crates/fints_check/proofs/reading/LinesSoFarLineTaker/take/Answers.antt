use Rattle.std.proofs.Common.{◌≡◌, ◌∷◌, ◌++◌, [], IfOk, Result, Ok, Err}
use Rattle.std.specs.Prelude.{◌↔◌, IsTrue, IsFalse}
use Rattle.std.proofs.lemmas.Bool.{both_ways}
use Rattle.fints_syntax_texts.specs.Lines.{BeginsText}
use Rattle.fints_check.specs.CertTexts.{AreCertLines, cert_lines}
use Rattle.fints_check.specs.CertReading.{IsNew}
use Rattle.fints_check_findings.proofs.CaseLemmas.{if_ok}
use Rattle.fints_check.proofs.CertReads.{begins, grown_by, no_line, not_new}
use Rattle.fints_check.proofs.reading.LinesSoFarLineTaker.take.Goals as goal

-- what follows from two facts of an answer
if_both : {X E : Type 0} (P Q R : X → Type 0) (r : Result X E) → ((x : X) → P x → Q x → R x) → IfOk r P
    → IfOk r Q → IfOk r R
if_both P Q R (Ok x) f p q = f x p q
if_both P Q R (Err e) f p q = p

pub returns-in-Some-clause-begins : goal.returns-in-Some-clause-begins
returns-in-Some-clause-begins c =
    let old = c.args.self.now.lines.items in
    let new = c.add.new.taken.lines.items in
    let line = c.in-Some.line in
    if_both (λ added. IsTrue added ↔ IsNew old line) (λ added. IsTrue added → new ≡ old ++ line ∷ [])
    (λ added. IsTrue added → BeginsText AreCertLines (cert_lines new)) c.add.result
    (λ added told lines is_added.
    begins new
    (grown_by old line c.args.text.now new c.requires.ready.begun c.in-Some.ensures.0 (told.0 is_added)
    c.in-Some.ensures.1 c.requires.short (lines is_added)))
    c.add.ensures.added c.add.ensures.lines

pub returns-in-Some-clause-refused : goal.returns-in-Some-clause-refused
returns-in-Some-clause-refused c =
    let old = c.args.self.now.lines.items in
    let line = c.in-Some.line in
    if_ok (λ added. IsTrue added ↔ IsNew old line)
    (λ added. IsFalse added → BeginsText AreCertLines (cert_lines old ++ c.args.text.now ∷ []) → ⊥)
    c.add.result
    (λ added told not_added.
    not_new old c.args.text.now line c.requires.ready.begun c.in-Some.ensures.0 c.in-Some.ensures.1
    (λ new. both_ways _ not_added (told.1 new)))
    c.add.ensures.added

pub returns-in-None-clause-refused : goal.returns-in-None-clause-refused
returns-in-None-clause-refused c _ =
    no_line c.args.self.now.lines.items c.args.text.now c.requires.ready.begun c.in-None.ensures
