-- The messages of a log, written one after the other, are a log of the same messages.
use Rattle.std.proofs.Common.{◌≡◌, ℕ, ◌+◌, List, [], ◌∷◌, ◌++◌, length, drop, refl, ap, sym, subst, ◌∙◌, arith, append_assoc, inl, inr, Some}
use Rattle.std.specs.Prelude.{true, false, Bool, map, flat_map}
use Rattle.std.proofs.Common.{drop-drop}
use Rattle.std.proofs.lemmas.List.{append-nil, drop_at, length-append, take_at}
use Rattle.fints_rules_logs.specs.Finds.{FoundValue, UnfitValue}
use Rattle.fints_rules_logs.specs.Forms.{first_units}
use Rattle.fints_rules_logs.specs.Kept.{is_message, none_passed, IsKeptAfter, IsRelationToLast, IsSettled}
use Rattle.fints_cli_records.specs.Laws.{raw_from, RecordedAgain}
use Rattle.fints_rules_logs.specs.Scan.{AreFoundFrom, IsScan}
use Rattle.fints_rules_logs.specs.Standing.{EndsWell, IsSized, StandsAs}
use Rattle.fints_rules_logs.specs.declared.find.Find.{Find}
use Rattle.fints_rules_logs.specs.declared.find.Find.TheVariants.{Message, Misfit}
use Rattle.fints_rules_logs.specs.declared.form.Form.TheVariants.{Raw}
use Rattle.fints_rules_logs.specs.declared.relating.Relation.TheVariants.{Apart}
use Rattle.fints_cli_records.proofs.ApartLemmas.{kept_apart, AreApart, AreWhole}
use Rattle.fints_rules_logs.proofs.Sizes.{says_before}
use Rattle.fints_rules_logs.proofs.WrittenLemmas.{raw_units}

abbrev bytes_of : List FoundValue → List ℕ
bytes_of ms = flat_map (λ m. m.bytes) ms

abbrev found_of : List FoundValue → List Find
found_of ms = map (λ m. Message m) ms

-- ---- the scan

raw_read : (bytes rest : List ℕ) → first_units Raw (length bytes) (bytes ++ rest) ≡ Some (bytes, rest)
raw_read bytes rest =
    raw_units (length bytes) (bytes ++ rest) (omega (arith, length-append bytes rest))
    ∙ ap (λ xs. Some (xs, drop (length bytes) (bytes ++ rest))) (take_at bytes rest (length bytes) refl)
    ∙ ap (λ xs. Some (bytes, xs)) (drop_at bytes rest (length bytes) refl)

raw_stands : (bytes rest : List ℕ) → IsSized bytes → EndsWell bytes
    → StandsAs Raw (bytes ++ rest) bytes (length bytes)
raw_stands bytes rest sized ends = record {
  begins = says_before bytes rest (length bytes) sized;
  own = bytes ++ rest;
  own_is = refl;
  left = rest;
  written = raw_read bytes rest;
  len_is = sym (length-append bytes rest);
  sized = sized;
  ends = ends;
}

again_found : (file : List ℕ) (at : ℕ) (ms : List FoundValue) → AreWhole ms → drop at file ≡ bytes_of ms
    → AreFoundFrom file at (found_of (raw_from at ms)) (at + length (bytes_of ms))
again_found file at [] h e = omega arith
again_found file at (m ∷ ms) h e =
    let rest : drop (at + length m.bytes) file ≡ bytes_of ms =
    sym (drop-drop (length m.bytes) at file) ∙ ap (drop (length m.bytes)) e
    ∙ drop_at m.bytes (bytes_of ms) (length m.bytes) refl in
    let to : at + length m.bytes + length (bytes_of ms) ≡ at + length (m.bytes ++ bytes_of ms) =
    omega (arith, length-append m.bytes (bytes_of ms)) in (
      length m.bytes,
      omega arith,
      λ n le lt. absurd (omega (arith, le, lt)),
      subst (λ xs. StandsAs Raw xs m.bytes (length m.bytes)) (sym e)
          (raw_stands m.bytes (bytes_of ms) h.0.sized h.0.ends),
      subst (AreFoundFrom file (at + length m.bytes) (found_of (raw_from (at + length m.bytes) ms))) to
          (again_found file (at + length m.bytes) ms h.1 rest),
    )

again_scan : (ms : List FoundValue) → AreWhole ms → IsScan (bytes_of ms) (found_of (raw_from 0 ms))
again_scan ms h = (
  0 + length (bytes_of ms),
  again_found (bytes_of ms) 0 ms h refl,
  λ n le lt. absurd (omega (arith, le, lt)),
)

-- ---- nothing is lost

abbrev first_is_message : List Find → Bool
first_is_message [] = true
first_is_message (f ∷ fs) = is_message f

no_misfit : (ms : List FoundValue) (front back : List Find) (u : UnfitValue)
    → found_of ms ≡ front ++ Misfit u ∷ back → ⊥
no_misfit [] front back u e = omega (arith, ap length e, length-append front (Misfit u ∷ back))
no_misfit (m ∷ ms) [] back u e =
    let both : true ≡ false = ap first_is_message e in
    absurd (cc both)
no_misfit (m ∷ ms) (f ∷ fs) back u e = no_misfit ms fs back u (ap (drop 1) e)

-- ---- what is kept

raw_apart : (at : ℕ) (ms : List FoundValue) → AreApart ms → AreApart (raw_from at ms)
raw_apart at [] h = tt
raw_apart at (a ∷ []) h = tt
raw_apart at (a ∷ b ∷ ms) h = (h.0, raw_apart (at + length a.bytes) (b ∷ ms) h.1)

last_apart : (so : List FoundValue) (m : FoundValue) (ms : List FoundValue) → AreApart (so ++ m ∷ ms)
    → IsRelationToLast so m Apart
last_apart [] m ms h = inr (refl, refl)
last_apart (a ∷ []) m ms h = inl ([], a, refl, h.0)
last_apart (a ∷ b ∷ so) m ms h = elim (last_apart (b ∷ so) m ms h.1) [
  | inl (front, last, split, is) ↦ inl (a ∷ front, last, ap (λ xs. a ∷ xs) split, is)
  | inr (none, apart) ↦ absurd (omega (arith, ap length none))
]

all_kept : (so ms : List FoundValue) → AreApart (so ++ ms)
    → IsKeptAfter so none_passed (found_of ms) (so ++ ms) none_passed
all_kept so [] h = (append-nil so, refl)
all_kept so (m ∷ ms) h =
    let parts : (so ++ m ∷ []) ++ ms ≡ so ++ m ∷ ms = append_assoc so (m ∷ []) ms in
    let settled : IsSettled so none_passed m (so ++ m ∷ []) none_passed =
    record {
      base = so;
      twins = [];
      split = sym (append-nil so);
      each = tt;
      relation = Apart;
      related = last_apart so m ms h;
      taken = (refl, refl);
    } in (
      so ++ m ∷ [],
      none_passed,
      settled,
      subst (λ xs. IsKeptAfter (so ++ m ∷ []) none_passed (found_of ms) xs none_passed) parts
          (all_kept (so ++ m ∷ []) ms (subst AreApart (sym parts) h)),
    )

raw_some : (ms : List FoundValue) → (ms ≡ [] → ⊥) → raw_from 0 ms ≡ [] → ⊥
raw_some [] some e = some refl
raw_some (m ∷ ms) some e = omega (arith, ap length e)

pub recorded_again : RecordedAgain
recorded_again file log h =
    let good = kept_apart file h.finds log.kept log.passed h.scan h.is_kept in
    record {
      finds = found_of (raw_from 0 log.kept);
      scan = again_scan log.kept good.whole;
      none_lost = λ front back u from below lost. no_misfit (raw_from 0 log.kept) front back u lost.split;
      is_kept = all_kept [] (raw_from 0 log.kept) (raw_apart 0 log.kept good.apart);
      some = raw_some log.kept h.some;
    }
