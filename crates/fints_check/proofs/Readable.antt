-- The greatest figures of a script's steps are a certificate that can be read back.
use Rattle.std.proofs.Common.{ℕ, suc, zero, ◌*◌, ◌<◌, ◌≤◌, ◌≡◌, ◌≢◌, Option, Some, None, List, [], ◌∷◌, ◌++◌, codes, map, drop, length, get_or, refl, ap, sym, ◌∙◌, arith}
use Rattle.std.specs.Fmt.{decimal}
use Rattle.std.specs.List.{All, AllPairs, slice_get}
use Rattle.std.specs.Option.{option_map}
use Rattle.std.proofs.lemmas.List.{length-append, length-map}
use Rattle.std.proofs.lemmas.Option.{get_or_from_slice_get, slice_get-get_or, slice_get-map}
use Rattle.fints_script_cases.specs.declared.values.NamedValue.{NamedValue}
use Rattle.fints_script_fields.specs.Names.{IsName}
use Rattle.fints_script_fields.proofs.NameLemmas.{name_is_short}
use Rattle.fints_syntax_texts.specs.Lines.{text_of_lines}
use Rattle.fints_script.specs.Plans.{Admits}
use Rattle.fints_script.specs.Scripts.{ScriptValue}
use Rattle.fints_script.specs.Sound.{IsSound, IsSoundStep}
use Rattle.fints_script.specs.Steps.{StepValue}
use Rattle.fints_wire.specs.Messages.{message_bytes}
use Rattle.fints_wire.specs.Runs.{IsSent, IsWithin}
use Rattle.fints_wire.specs.declared.dialogue.Sent.{Sent}
use Rattle.fints_wire.specs.declared.dialogue.Visit.{Visit}
use Rattle.fints_check_findings.specs.Figures.{AreFigures, FiguresAre}
use Rattle.fints_check_findings.specs.declared.finding.Reached.{Reached}
use Rattle.fints_check.specs.Certificates.{line_figures, line_names, step_names}
use Rattle.fints_check.specs.CertTexts.{cert_text, figures_text, step_text, AreShown, IsCertificate, IsStepLine}
use Rattle.fints_check.specs.declared.certificate.Line.{Line}
use Rattle.fints_script.specs.Numbered.{numbered_holds}
use Rattle.fints_check.proofs.FigureTexts.{figure_short}
use Rattle.fints_syntax_texts.specs.declared.lines.TheConstants.{MAX_TEXT}
use Rattle.fints_script_rows.specs.declared.limits.TheConstants.{MAX_STEPS}
use Rattle.fints_wire.specs.declared.building.TheConstants.{MAX_NUMBER}
use Rattle.fints_check.proofs.Numbered.{same_at}
use Rattle.fints_wire.proofs.RunLawLemmas.{last_messages, visits_are_within}
use Rattle.fints_wire.proofs.LawLemmas.{none_is_longer_short}

-- ---- names

there : {X : Type 0} (xs : List X) (i : ℕ) → i < length xs → (x : X) × (slice_get xs i ≡ Some x)
there [] i h = absurd (omega (arith, h))
there (x ∷ xs) zero h = (x, refl)
there (x ∷ xs) (suc i) h = there xs i (omega (arith, h))

-- where the names of one list are pairwise different, those of the other are
pub names_apart : {X Y : Type 0} (f : X → List ℕ) (g : Y → List ℕ) (xs : List X) (ys : List Y)
    → map f xs ≡ map g ys → AllPairs (λ a b. g a ≢ g b) ys → AllPairs (λ a b. f a ≢ f b) xs
names_apart f g xs ys e apart i j d low within same =
    let long : length xs ≡ length ys = sym (length-map xs f) ∙ (ap length e ∙ length-map ys g) in
    let first : i < length xs = omega (arith, low, within) in
    let s = there ys i (omega (arith, first, long)) in
    let t = there ys j (omega (arith, within, long)) in
    let one : f (get_or xs i d) ≡ g s.0 = same_at f g xs ys i (get_or xs i d) s.0 (slice_get-get_or xs i d first) s.1 e in
    let two : f (get_or xs j d) ≡ g t.0 = same_at f g xs ys j (get_or xs j d) t.0 (slice_get-get_or xs j d within) t.1 e in
    let here : get_or ys i s.0 ≡ s.0 = get_or_from_slice_get ys i s.0 s.0 s.1 in
    let later : get_or ys j s.0 ≡ t.0 = get_or_from_slice_get ys j t.0 s.0 t.1 in
    apart i j s.0 low (omega (arith, within, long)) (ap g here ∙ (sym one ∙ (same ∙ (two ∙ sym (ap g later)))))

-- ---- lengths

figures_length : (reached : Option Reached) → AreShown reached → length (figures_text reached) ≤ 19
figures_length None h = omega arith
figures_length (Some f) h =
    let number = figure_short f.number h.0 in
    let size = figure_short f.size h.1 in
    let both = length-append (decimal f.number) (32 ∷ decimal f.size) in
    omega (arith, number, size, both)

line_length : (line : Line) → IsStepLine line → length (step_text line) ≤ 65
line_length line h =
    let figures = figures_length line.reached h.1 in
    let name = name_is_short line.name h.0 in
    let both = length-append line.name (32 ∷ figures_text line.reached) in
    let whole = length-append (codes "step ") (line.name ++ 32 ∷ figures_text line.reached) in
    omega (arith, figures, name, both, whole)

lines_length : (lines : List Line) → All IsStepLine lines
    → length (text_of_lines (map step_text lines)) ≤ 66 * length lines
lines_length [] h = omega arith
lines_length (line ∷ lines) h =
    let first = line_length line (h 0 line (omega arith)) in
    let rest = lines_length lines (λ k d within. h (suc k) d (omega (arith, within))) in
    let one = length-append (step_text line) (10 ∷ []) in
    let all = length-append (step_text line ++ 10 ∷ []) (text_of_lines (map step_text lines)) in
    omega (arith, first, rest, one, all)

cert_length : (lines : List Line) → All IsStepLine lines → length lines ≤ MAX_STEPS
    → length (cert_text lines) ≤ MAX_TEXT
cert_length lines h few =
    let rest = lines_length lines h in
    let all = length-append (codes "fints-cert 2" ++ 10 ∷ []) (text_of_lines (map step_text lines)) in
    omega (arith, rest, few, all)

-- ---- figures

cons_some : (x : ℕ) (xs : List ℕ) → 1 ≤ length (x ∷ xs)
cons_some x xs = omega arith

-- a message begins with the letters HNHBK
message_some : (script : ScriptValue) (step : StepValue) (number : ℕ) (values : List NamedValue)
    → 1 ≤ length (message_bytes script step number values)
message_some script step number values = cons_some 72 (drop 1 (message_bytes script step number values))

module _ (script : ScriptValue) (sound : IsSound script) where
  message_shown : (values : List NamedValue) (v : Visit) (m : Sent) → Admits script.fields values
      → IsWithin script.steps v → IsSent script values v m
      → (1 ≤ m.number) × (m.number ≤ MAX_NUMBER) × (1 ≤ length m.bytes) × (length m.bytes < 1048576)
  message_shown values v m admits w is =
      let number : m.number ≡ v.number = ap (λ (x : Sent). x.number) is.is in
      let bytes : length m.bytes ≡ length (message_bytes script is.at v.number values) = ap (λ (x : Sent). length x.bytes) is.is in
      let low = w.first in
      let high = w.last in
      let to = w.to in
      let few = sound.few_steps in
      let top : v.number ≤ MAX_NUMBER = omega arith in
      let some = message_some script is.at v.number values in
      let less =
      none_is_longer_short script is.at values v.number sound
      (numbered_holds (IsSoundStep script) script.steps v.step is.at sound.steps is.of) admits top in
      (omega (arith, number, low), omega (arith, number, top), omega (arith, bytes, some), omega (arith, bytes, less))

  figures_shown : (n : ℕ) (cell : Option Reached) → FiguresAre script n cell → AreShown cell
  figures_shown n None is = tt
  figures_shown n (Some figures) is =
      let from = (last_messages script is.sent.values is.message sound).0 is.sent.sends in
      let shown = message_shown is.sent.values from.0 is.message is.sent.admitted (visits_are_within script from.0 sound from.1) from.2 in
      let number = is.number in
      let size = is.size in
      ((omega (arith, number, shown), omega (arith, number, shown)), (omega (arith, size, shown), omega (arith, size, shown)))

  pub greatest_readable : (lines : List Line) → line_names lines ≡ step_names script.steps
      → All (λ (line : Line). IsName line.name) lines → AreFigures script (line_figures lines)
      → IsCertificate lines
  greatest_readable lines same names figures =
      let long : length lines ≡ length script.steps =
      sym (length-map lines (λ (line : Line). line.name))
      ∙ (ap length same ∙ length-map script.steps (λ (step : StepValue). step.name)) in
      let some = sound.some_steps in
      let few = sound.few_steps in
      record {
        some = omega (arith, long, some);
        apart = names_apart (λ (line : Line). line.name) (λ (step : StepValue). step.name) lines script.steps same sound.steps_apart;
        each = each;
        short = cert_length lines each (omega (arith, long, few));
      }
    where
      each : All IsStepLine lines
      each k d inside =
          let line : Line = get_or lines k d in
          let at = slice_get-map (λ (l : Line). l.reached) lines k ∙ ap (option_map (λ (l : Line). l.reached)) (slice_get-get_or lines k d inside) in
          (names k d inside, figures_shown (suc k) line.reached (figures.each (suc k) line.reached at))
