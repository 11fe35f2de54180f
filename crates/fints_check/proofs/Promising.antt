-- A closed certificate keeps its promise.
use Rattle.std.proofs.Common.{ℕ, ◌-◌, ◌≤◌, List, [], ◌∷◌, length, refl, sym, subst, arith, inl, inr}
use Rattle.std.specs.List.{AllByRecursion}
use Rattle.fints_script_cases.specs.declared.values.NamedValue.{NamedValue}
use Rattle.fints_check_findings.specs.Findings.{EachIsPermitted, IsPermittedBehind}
use Rattle.fints_check_findings.specs.declared.finding.Finding.{Finding}
use Rattle.fints_check_findings.specs.declared.finding.Reached.{Reached}
use Rattle.fints_rules.specs.Breaks.{Breaks, BreaksByFigures, BytesBreakRelease, Permitted}
use Rattle.std.proofs.lemmas.Bool.{cases_lt}
use Rattle.fints_rules.specs.declared.facts.Figures.{Figures}
use Rattle.fints_rules.specs.declared.whole.TheConstants.{LAST_NUMBER}
use Rattle.fints_rules.specs.Rules.{BreaksNumber, FiguresBreak}
use Rattle.fints_check_findings.specs.Figures.{reached_figures}
use Rattle.fints_rules_permissions.specs.Permits.{Granted}
use Rattle.fints_rules.specs.declared.rule.Rule.{Rule}
use Rattle.fints_rules.specs.declared.rule.Rule.TheVariants.{Number, Size, Release}
use Rattle.fints_script.specs.Numbered.{numbered_from, numbered_holds}
use Rattle.fints_script.specs.Plans.{Admits}
use Rattle.fints_script.specs.Scripts.{ScriptValue}
use Rattle.fints_script.specs.Sound.{IsSound, IsSoundStep}
use Rattle.fints_script.specs.Steps.{StepValue}
use Rattle.fints_wire.specs.Messages.{message_bytes}
use Rattle.fints_wire.specs.Runs.{Before, EachAfter, SendsAfter, SendsLast, at_first, behind}
use Rattle.fints_wire.specs.Views.{message_view}
use Rattle.fints_wire.specs.declared.dialogue.Sent.{Sent}
use Rattle.fints_check.specs.Certificates.{LineHolds, IsClosedCertificate, StaysWithin, KeepsPromise}
use Rattle.fints_check.specs.declared.certificate.Line.{Line}
use Rattle.fints_check.proofs.Bounds.{reach_bounded}
use Rattle.fints_wire.proofs.RunLawLemmas.{each_is_last, each_is_last_after, last_messages, runs_by_steps, visits_are_within}
use Rattle.fints_wire.proofs.LawLemmas.{messages_are_read, none_is_longer_most}
use Rattle.fints_check_findings.proofs.Checking.{real_of}
use Rattle.fints_check_findings.proofs.LawLemmas.{release_is_left}

-- a number that doesn't break P2 can be asked for
pub number_asked : (f : Figures) → (BreaksNumber f → ⊥) → (1 ≤ f.number) × (f.number ≤ LAST_NUMBER)
number_asked f none = (
  elim (cases_lt 0 f.number) [ inl above ↦ above | inr under ↦ absurd (none (inl (omega (arith, under)))) ],
  elim (cases_lt LAST_NUMBER f.number) [ inl past ↦ absurd (none (inr past)) | inr under ↦ under ],
)

-- figures that break neither P2 nor P3 break no rule
pub figures_permitted : (granted : Granted) (f : Figures) → (FiguresBreak granted.rows.bank f Number → ⊥)
    → (FiguresBreak granted.rows.bank f Size → ⊥) → (r : Rule) → FiguresBreak granted.rows.bank f r → ⊥
figures_permitted granted f number size Number b = number b
figures_permitted granted f number size Size b = size b
figures_permitted granted f number size _ b = absurd b

-- a message of a number and a size within a line's figures breaks no rule
permitted_view : (granted : Granted) (script : ScriptValue) (lines : List Line) (step : StepValue)
    (figures : Reached) (number : ℕ) (values : List NamedValue) → LineHolds granted script lines step figures
    → 1 ≤ number → number ≤ figures.number → (message_view script step number values).size ≤ figures.size
    → Admits script.fields values
    → (r : Rule) (place : ℕ) → Breaks granted (message_view script step number values) r place → ⊥
permitted_view granted script lines step figures number values holds low high size admits r place (inr b) = holds.clean r number values place admits b
permitted_view granted script lines step figures number values holds low high size admits r place (inl whole) = holds.permitted r (within r whole.1)
  where
    within : (r : Rule) → BreaksByFigures granted (message_view script step number values) r
        → FiguresBreak granted.rows.bank (reached_figures figures) r
    within Number (inl none) = absurd (omega (arith, low, none))
    within Number (inr over) = inr (omega (arith, high, over))
    within Size b = (b.0, omega (arith, b.1, size))
    within _ b = absurd b

module _ (granted : Granted) (script : ScriptValue) (lines : List Line) (sound : IsSound script) (closed : IsClosedCertificate granted script lines) where
  -- the last message of a run
  kept : (values : List NamedValue) (m : Sent) → Admits script.fields values → SendsLast script values m
      → StaysWithin lines m × Permitted granted m.bytes
  kept values m admits sends =
      let way = (last_messages script values m sound).0 sends in
      let v = way.0 in
      let is = way.2 in
      let b = reach_bounded granted script lines closed v sound ((runs_by_steps script.steps v).0 way.1) in
      let holds = closed.each v.step is.at b.figures is.of b.named in
      let low = (visits_are_within script v sound way.1).first in
      let high = b.number in
      let most = (number_asked (reached_figures b.figures) (holds.permitted Number)).1 in
      let worst =
      none_is_longer_most script is.at values v.number b.figures.number sound
      (numbered_holds (IsSoundStep script) script.steps v.step is.at sound.steps is.of) admits low
      high (omega arith) in
      let top = holds.size in
      let size : length (message_bytes script is.at v.number values) ≤ b.figures.size = omega arith in
      let view = messages_are_read script (v.step - 1) is.at v.number values sound (numbered_from script.steps v.step is.at is.of) low (omega arith) admits in
      let same = view.size in
      let message : Sent = record { step = v.step; number = v.number; bytes = message_bytes script is.at v.number values } in
      let stays : StaysWithin lines message = record { figures = b.figures; named = b.named; number = high; size = size } in
      let permitted : Permitted granted message.bytes = record {
        message = message_view script is.at v.number values;
        is = view;
        none = permitted_view granted script lines is.at b.figures v.number values holds low high (omega arith) admits;
      } in
      subst (λ (x : Sent). StaysWithin lines x × Permitted granted x.bytes) (sym is.is) (stays, permitted)

  pub promise : KeepsPromise script lines
  promise values answers sent admits good run = all sent (each_is_last script values answers sent sound good run)
    where
      all : (sent : List Sent) → AllByRecursion (SendsLast script values) sent
          → AllByRecursion (StaysWithin lines) sent
      all [] h = tt
      all (m ∷ ms) h = ((kept values m admits h.0).0, all ms h.1)

  last_of_run : (values : List NamedValue) (before : Before) (m : Sent) → SendsAfter script values before m
      → SendsLast script values m
  last_of_run values before m s = (s.0, s.1.ends)

  -- after the message before it no message leaves an order unreleased
  none_left : (values : List NamedValue) (b : Sent) (codes : List ℕ) (m : Sent) → Admits script.fields values
      → SendsAfter script values (behind b codes) m → BytesBreakRelease b.bytes codes m.bytes → ⊥
  none_left values b codes m admits s breaks =
      let f : Finding = record { step = m.step; rule = Release; segment = 0 } in
      let real = real_of granted script values (behind b codes) m Release 0 admits s (inr (refl, refl, breaks)) in
      let l = (release_is_left granted script f sound refl real).1 in
      let stays = reach_bounded granted script lines closed l.0 sound ((runs_by_steps script.steps l.0).0 l.1) in
      closed.released l.0.step m.step stays.figures stays.named l.2

  kept_behind : (values : List NamedValue) (before : Before) (m : Sent) → Admits script.fields values
      → SendsAfter script values before m → IsPermittedBehind granted before m
  kept_behind values at_first m admits s = (kept values m admits (last_of_run values at_first m s)).1
  kept_behind values (behind b codes) m admits s =
      record {
        alone = (kept values m admits (last_of_run values (behind b codes) m s)).1;
        released = none_left values b codes m admits s;
      }

  pub permits : EachIsPermitted granted script
  permits values answers sent admits good run = all at_first sent answers (each_is_last_after script values answers sent sound good run)
    where
      all : (before : Before) (sent : List Sent) (answers : List (List ℕ))
          → EachAfter (SendsAfter script values) before sent answers
          → EachAfter (IsPermittedBehind granted) before sent answers
      all before [] answers h = tt
      all before (m ∷ []) answers h = kept_behind values before m admits h
      all before (m ∷ n ∷ ns) [] h = absurd h
      all before (m ∷ n ∷ ns) (codes ∷ answers) h = (kept_behind values before m admits h.0, all (behind m codes) (n ∷ ns) answers h.1)
