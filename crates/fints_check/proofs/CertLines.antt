-- The lines of a certificate: what they say, and what may come next.
use Rattle.std.proofs.Common.{ℕ, suc, ◌+◌, ◌≡◌, ◌≢◌, Option, List, [], ◌∷◌, ◌++◌, map, codes, length, get_or, refl, ap, sym, subst, ◌∙◌, arith}
use Rattle.std.specs.List.{All, AllPairs}
use Rattle.std.proofs.lemmas.List.{append_assoc, length-append, get_or_append_left, get_or_at}
use Rattle.std.proofs.lemmas.List.Elements.{All-cons, All-head, All-tail, All-map}
use Rattle.fints_syntax_texts.specs.Lines.{NoFeed, BeginsText}
use Rattle.fints_syntax_texts.specs.LineLaws.{plain}
use Rattle.fints_check_findings.specs.declared.finding.Reached.{Reached}
use Rattle.fints_check.specs.CertTexts.{figures_text, step_text, cert_lines, IsStepLine, AreCertLines}
use Rattle.fints_check.specs.CertReading.{IsNew, IsBegun}
use Rattle.fints_check.specs.declared.certificate.Line.{Line}
use Rattle.fints_script_cases.proofs.NamedLines.{named_once, named_without}
use Rattle.fints_check.proofs.FigureTexts.{figures_without, figures_once}

-- ---- one line

pub line_without : (line : Line) → IsStepLine line → NoFeed (step_text line)
line_without line h =
    named_without (codes "step ") line.name (figures_text line.reached) (plain (codes "step ") refl) h.0
    (figures_without line.reached h.1)

pub line_once : (a b : Line) → IsStepLine a → IsStepLine b → step_text a ≡ step_text b → a ≡ b
line_once a b ha hb e =
    let parts = named_once (codes "step ") a.name b.name (figures_text a.reached) (figures_text b.reached)
    ha.0 hb.0 e in
    let reached = figures_once a.reached b.reached ha.1 hb.1 parts.1 in
    let make : List ℕ → Option Reached → Line = λ n r. record { name = n; reached = r } in
    ap (λ (n : List ℕ). make n a.reached) parts.0 ∙ ap (λ (r : Option Reached). make b.name r) reached

-- ---- all lines

lines_without : (lines : List Line) → All IsStepLine lines → All NoFeed (cert_lines lines)
lines_without lines h =
    All-cons NoFeed (codes "fints-cert 2") (map step_text lines) (plain (codes "fints-cert 2") refl)
    (All-map NoFeed step_text lines (λ k d within. line_without (get_or lines k d) (h k d within)))

pub cert_without : (all : List (List ℕ)) → AreCertLines all → All NoFeed all
cert_without all c = subst (All NoFeed) (sym c.same) (lines_without c.lines c.is.each)

pub lines_once : (a b : List Line) → All IsStepLine a → All IsStepLine b → map step_text a ≡ map step_text b
    → a ≡ b
lines_once [] [] ha hb e = refl
lines_once [] (y ∷ b) ha hb e = absurd cc
lines_once (x ∷ a) [] ha hb e = absurd cc
lines_once (x ∷ a) (y ∷ b) ha hb e =
    let front : step_text x ≡ step_text y = cc in
    let back : map step_text a ≡ map step_text b = cc in
    let same = line_once x y (All-head IsStepLine x a ha) (All-head IsStepLine y b hb) front in
    let rest = lines_once a b (All-tail IsStepLine x a ha) (All-tail IsStepLine y b hb) back in
    cc

-- the lines of a longer list: those of the shorter one, a further line and more
record Next (v w : List Line) (text : List ℕ) : Type 0 where
  pub line : Line
  pub more : List Line
  pub lines : w ≡ v ++ line ∷ more
  pub is : text ≡ step_text line

next_more : (p : Line) (v w : List Line) (text : List ℕ) → Next v w text → Next (p ∷ v) (p ∷ w) text
next_more p v w text n = record { line = n.line; more = n.more; lines = ap (λ (xs : List Line). p ∷ xs) n.lines; is = n.is }

lines_next : (v w : List Line) (text : List ℕ) (later : List (List ℕ)) → All IsStepLine v → All IsStepLine w
    → map step_text w ≡ map step_text v ++ text ∷ later → Next v w text
lines_next [] [] text later hv hw e = absurd cc
lines_next [] (q ∷ w) text later hv hw e = let first : step_text q ≡ text = cc in record { line = q; more = w; lines = refl; is = sym first }
lines_next (p ∷ v) [] text later hv hw e = absurd cc
lines_next (p ∷ v) (q ∷ w) text later hv hw e =
    let first : step_text q ≡ step_text p = cc in
    let rest : map step_text w ≡ map step_text v ++ text ∷ later = cc in
    let same : q ≡ p = line_once q p (All-head IsStepLine q w hw) (All-head IsStepLine p v hv) first in
    subst (λ (x : Line). Next (p ∷ v) (x ∷ w) text) (sym same)
    (next_more p v w text
    (lines_next v w text later (All-tail IsStepLine p v hv) (All-tail IsStepLine q w hw) rest))

names_before : (v more : List Line) (line : Line)
    → AllPairs (λ (p q : Line). p.name ≢ q.name) (v ++ line ∷ more) → IsNew v line
names_before v more line apart k d within =
    let long : length (v ++ line ∷ more) ≡ length v + suc (length more) = length-append v (line ∷ more) in
    let left : get_or (v ++ line ∷ more) k d ≡ get_or v k d = get_or_append_left v (line ∷ more) d k within in
    let right : get_or (v ++ line ∷ more) (length v) d ≡ line = get_or_at v line more d (length v) refl in
    let both = apart k (length v) d within (omega arith) in
    λ e. both (ap (λ (x : Line). x.name) left ∙ (e ∙ ap (λ (x : Line). x.name) (sym right)))

all_at : (v more : List Line) (line : Line) → All IsStepLine (v ++ line ∷ more) → IsStepLine line
all_at [] more line h = All-head IsStepLine line more h
all_at (x ∷ v) more line h = all_at v more line (All-tail IsStepLine x (v ++ line ∷ more) h)

-- a line that goes on with a certificate
pub record IsOnward (v : List Line) (text : List ℕ) : Type 0 where
  pub line : Line
  pub good : IsStepLine line
  pub is : text ≡ step_text line
  pub next : IsNew v line

pub onward : (v : List Line) (text : List ℕ) → IsBegun v → BeginsText AreCertLines (cert_lines v ++ text ∷ [])
    → IsOnward v text
onward v text begun b =
    let c = b.good in
    let same = c.same in
    let tail : map step_text c.lines ≡ (map step_text v ++ text ∷ []) ++ b.later = cc in
    let n = lines_next v c.lines text b.later begun.each c.is.each (tail ∙ append_assoc (map step_text v) (text ∷ []) b.later) in
    record {
      line = n.line;
      good = all_at v n.more n.line (subst (All IsStepLine) n.lines c.is.each);
      is = n.is;
      next = names_before v n.more n.line (subst (AllPairs (λ (p q : Line). p.name ≢ q.name)) n.lines c.is.apart);
    }
