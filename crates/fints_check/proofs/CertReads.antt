-- A text is a certificate, or it has a first bad line.
use Rattle.std.proofs.Common.{ℕ, ◌<◌, ◌≤◌, ◌≡◌, ◌≢◌, None, List, [], ◌∷◌, ◌++◌, map, codes, length, refl, ap, sym, subst, ◌∙◌, arith}
use Rattle.std.proofs.lemmas.List.{append-nil, map-append}
use Rattle.std.proofs.lemmas.List.Elements.{All-cons, All-nil, All-push}
use Rattle.std.proofs.lemmas.List.Quantifiers.{all_pairs_push}
use Rattle.fints_syntax_texts.specs.Lines.{text_of_lines, AreTexts, BeginsText, IsHeaded}
use Rattle.fints_syntax_texts.specs.LineLaws.{same_lines, text_or_bad_line}
use Rattle.fints_check.specs.CertTexts.{step_text, cert_lines, cert_text, IsStepLine, IsCertificate, OneCertificate, CertificateOrBadLine, AreCertLines}
use Rattle.fints_check.specs.CertReading.{IsNew, IsBegun}
use Rattle.fints_check.specs.declared.certificate.Line.{Line}
use Rattle.fints_syntax_texts.specs.declared.lines.TheConstants.{MAX_TEXT}
use Rattle.fints_check.proofs.CertLines.{onward, line_once, cert_without, lines_once}

-- ---- a line more

lines_with : (v : List Line) (line : Line) → cert_lines (v ++ line ∷ []) ≡ cert_lines v ++ step_text line ∷ []
lines_with v line = ap (λ (ls : List (List ℕ)). codes "fints-cert 2" ∷ ls) (map-append step_text v (line ∷ []))

-- a line is taken
pub grown_by : (v : List Line) (line : Line) (text : List ℕ) (w : List Line) → IsBegun v → IsStepLine line
    → IsNew v line
    → text ≡ step_text line
    → length (text_of_lines (cert_lines v ++ text ∷ [])) ≤ MAX_TEXT → w ≡ v ++ line ∷ []
    → IsBegun w
grown_by v line text w begun good next is short lines =
    let whole = lines_with v line ∙ ap (λ (t : List ℕ). cert_lines v ++ t ∷ []) (sym is) in
    subst IsBegun (sym lines)
    (record {
      apart = all_pairs_push (λ (p q : Line). p.name ≢ q.name) v line begun.apart next;
      each = All-push IsStepLine v line begun.each good;
      short = subst (λ (ls : List (List ℕ)). length (text_of_lines ls) ≤ MAX_TEXT) (sym whole) short;
    })

pub lines_more : (v : List Line) (line : Line) (text : List ℕ) (w : List Line) → text ≡ step_text line
    → w ≡ v ++ line ∷ [] → cert_lines w ≡ cert_lines v ++ text ∷ []
lines_more v line text w is lines =
    ap cert_lines lines ∙ (lines_with v line ∙ ap (λ (t : List ℕ). cert_lines v ++ t ∷ []) (sym is))

-- ---- the end

pub is_certificate : (v : List Line) → IsBegun v → 0 < length v → IsCertificate v
is_certificate v begun some = record { some = some; apart = begun.apart; each = begun.each; short = begun.short }

-- ---- a bad line

-- a short certificate
least_line : Line
least_line = record { name = codes "a"; reached = None }

least : IsCertificate (least_line ∷ [])
unfolding least_line
least =
    let size : length (cert_text (least_line ∷ [])) ≡ 22 = refl in
    record {
      some = omega arith;
      apart = λ i j d below within. absurd (omega arith);
      each = All-cons IsStepLine least_line [] (refl, tt) (All-nil IsStepLine);
      short = omega arith;
    }

pub begins : (v : List Line) → IsBegun v → BeginsText AreCertLines (cert_lines v)
begins [] begun = record { later = step_text least_line ∷ []; good = record { lines = least_line ∷ []; is = least; same = refl } }
begins (x ∷ v) begun =
    record {
      later = [];
      good =
          record {
            lines = x ∷ v;
            is = is_certificate (x ∷ v) begun (omega arith);
            same = append-nil (cert_lines (x ∷ v));
          };
    }

none_is_none : (v : List Line) → length v ≡ 0 → AreCertLines (cert_lines v) → ⊥
none_is_none [] none c = no_lines c.lines c.is.some (let same = c.same in cc)
  where
    no_lines : (w : List Line) → 0 < length w → map step_text w ≡ [] → ⊥
    no_lines [] some e = omega arith
    no_lines (x ∷ w) some e = cc
none_is_none (x ∷ v) none c = omega arith

pub some_lines : (v : List Line) → AreCertLines (cert_lines v) → 0 < length v
some_lines [] c = absurd (none_is_none [] refl c)
some_lines (x ∷ v) c = omega arith

pub lines_of : (v : List Line) → IsCertificate v → AreCertLines (cert_lines v)
lines_of v is = record { lines = v; is = is; same = refl }

-- a line that is none of a certificate goes on with none
pub no_line : (v : List Line) (text : List ℕ) → IsBegun v
    → ((line : Line) → IsStepLine line → text ≢ step_text line)
    → BeginsText AreCertLines (cert_lines v ++ text ∷ []) → ⊥
no_line v text begun none b = let on = onward v text begun b in none on.line on.good on.is

pub not_new : (v : List Line) (text : List ℕ) (line : Line) → IsBegun v
    → IsStepLine line → text ≡ step_text line
    → (IsNew v line → ⊥) → BeginsText AreCertLines (cert_lines v ++ text ∷ []) → ⊥
not_new v text line begun good is not b =
    let on = onward v text begun b in
    not (subst (IsNew v) (line_once on.line line on.good good (sym on.is ∙ is)) on.next)

-- ---- the texts of certificates

pub are_texts : AreTexts AreCertLines
are_texts all c = (
  cert_without all c,
  subst (λ (ls : List (List ℕ)). length (text_of_lines ls) ≤ MAX_TEXT) (sym c.same)
      c.is.short,
)

pub headed : IsHeaded AreCertLines (codes "fints-cert 2\n") (cert_lines [])
headed = record {
  line = codes "fints-cert 2";
  front_is = refl;
  lines_are = refl;
  first = λ all c. (map step_text c.lines, c.same);
}

pub none_begun : IsBegun []
none_begun =
    let size : length (cert_text []) ≡ 13 = refl in
    record { apart = λ i j d below within. absurd (omega arith); each = All-nil IsStepLine; short = omega arith }

pub certificate_or_bad_line : (text : List ℕ) → CertificateOrBadLine text
certificate_or_bad_line text none never =
    text_or_bad_line AreCertLines text
    (record { later = cert_lines (least_line ∷ []); good = record { lines = least_line ∷ []; is = least; same = refl } })
    (λ all good is. none good.lines (good.is, is ∙ ap text_of_lines good.same)) never

-- ---- one certificate

pub one_certificate : (text : List ℕ) → OneCertificate text
one_certificate text lines others a b =
    let same =
    same_lines (cert_lines lines) (cert_lines others)
    (cert_without (cert_lines lines) (record { lines = lines; is = a.0; same = refl }))
    (cert_without (cert_lines others) (record { lines = others; is = b.0; same = refl }))
    (sym a.1 ∙ b.1) in
    lines_once lines others a.0.each b.0.each cc
