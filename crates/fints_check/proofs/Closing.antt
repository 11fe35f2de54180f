-- The greatest figures of all steps are a closed certificate where nothing is found.
use Rattle.std.proofs.Common.{ℕ, suc, zero, ◌+◌, ◌-◌, ◌≤◌, ◌≡◌, Option, Some, None, List, [], ◌∷◌, length, refl, ap, sym, subst, ◌∙◌, arith, inl, inr}
use Rattle.std.proofs.lemmas.Option.{same_Some}
use Rattle.fints_script_cases.specs.Answers.{IsOpenTo, target_of}
use Rattle.fints_script_cases.specs.declared.answers.Target.{Target}
use Rattle.fints_script_cases.specs.declared.answers.Target.TheVariants.{Step, Again, Stop}
use Rattle.fints_check_findings.specs.Figures.{AreFigures, AreGreatestFigures, FiguresAre, IsSentOf, reached_figures}
use Rattle.fints_check_findings.specs.Findings.{AreFindings, IsReal, SentStepsAreClean, SentStepsAreReleased}
use Rattle.fints_check_findings.specs.declared.finding.Finding.{Finding}
use Rattle.fints_check_findings.specs.declared.finding.Reached.{Reached}
use Rattle.fints_rules_messages.specs.Messages.{IsMessage}
use Rattle.fints_rules.specs.Breaks.{Breaks, BreaksByFigures}
use Rattle.fints_rules.specs.Rules.{FiguresBreak}
use Rattle.fints_rules_permissions.specs.Permits.{Granted}
use Rattle.fints_rules.specs.declared.rule.Rule.{Rule}
use Rattle.fints_rules.specs.declared.rule.Rule.TheVariants.{Number, Size}
use Rattle.fints_script.specs.Numbered.{numbered, numbered_at, numbered_from, numbered_holds}
use Rattle.fints_script.specs.Scripts.{ScriptValue}
use Rattle.fints_script.specs.Sound.{IsSound, IsSoundStep}
use Rattle.fints_script.specs.Steps.{StepValue}
use Rattle.fints_wire.specs.Choices.{longest_choice}
use Rattle.fints_wire.specs.Messages.{message_bytes}
use Rattle.fints_wire.specs.Runs.{Arrives, Reach, at_first, came_after}
use Rattle.fints_wire.specs.Runs.Reach.{first}
use Rattle.fints_wire.specs.Views.{message_view}
use Rattle.fints_wire.specs.declared.dialogue.Sent.{Sent}
use Rattle.fints_wire.specs.declared.dialogue.Visit.{Visit}
use Rattle.fints_check.specs.Certificates.{IsEntered, GoesOn, LineHolds, IsClosedCertificate, Names, line_figures, line_names, step_names, worst_len}
use Rattle.fints_check.specs.declared.certificate.Line.{Line}
use Rattle.fints_wire.specs.declared.building.TheConstants.{MAX_NUMBER}
use Rattle.fints_check_reach.proofs.PassLemmas.{reach_step, reach_repeated}
use Rattle.fints_script_cases.proofs.LawLemmas.{open_branches_lead}
use Rattle.fints_check_findings.proofs.Cleans.{nothing_real}
use Rattle.fints_check_findings.proofs.Reals.{itself}
use Rattle.fints_wire.proofs.RunLawLemmas.{last_messages, runs_by_steps, visits_are_within}
use Rattle.fints_wire.proofs.LawLemmas.{extremes_are_admitted_longest, messages_are_read}

-- ---- lines and their figures

-- what is named is among the figures
named_figures : (lines : List Line) (n : ℕ) (figures : Reached) → Names lines n figures
    → numbered (line_figures lines) n ≡ Some (Some figures)
named_figures lines zero figures h = absurd cc
named_figures [] (suc n) figures h = absurd cc
named_figures (l ∷ lines) (suc zero) figures h = ap (λ (x : Option Reached). Some x) h
named_figures (l ∷ lines) (suc (suc n)) figures h = named_figures lines (suc n) figures h

-- and the other way
figures_named : (lines : List Line) (n : ℕ) (figures : Reached)
    → numbered (line_figures lines) n ≡ Some (Some figures) → Names lines n figures
figures_named lines zero figures h = absurd cc
figures_named [] (suc n) figures h = absurd cc
figures_named (l ∷ lines) (suc zero) figures h = same_Some l.reached (Some figures) h
figures_named (l ∷ lines) (suc (suc n)) figures h = figures_named lines (suc n) figures h

-- the step of a visit has figures, and the visit's number is within them
record Kept (script : ScriptValue) (lines : List Line) (v : Visit) : Type 0 where
  pub step : StepValue
  pub at : numbered script.steps v.step ≡ Some step
  pub figures : Reached
  pub named : Names lines v.step figures
  pub number : v.number ≤ figures.number

-- some run ends with a message of the step that has both figures
record Peak (script : ScriptValue) (n : ℕ) (step : StepValue) (f : Reached) : Type 0 where
  pub visit : Visit
  pub arrives : Arrives script.steps visit
  pub here : visit.step ≡ n
  pub number : visit.number ≡ f.number
  pub low : 1 ≤ visit.number
  pub high : visit.number ≤ MAX_NUMBER
  pub message : Sent
  pub sent : IsSentOf script n message
  pub bytes : message.bytes ≡ message_bytes script step visit.number sent.values
  pub size : length message.bytes ≡ f.size
  pub most : (m : Sent) → IsSentOf script n m → length m.bytes ≤ f.size

module _ (granted : Granted) (script : ScriptValue) (lines : List Line) (sound : IsSound script) (figures : AreFigures script (line_figures lines)) where
  -- a visit's message with the longest values
  abbrev longest_message : Visit → StepValue → Sent
  longest_message v step = record { step = v.step; number = v.number; bytes = message_bytes script step v.number (longest_choice script.fields) }

  sent_at : (v : Visit) (step : StepValue) → numbered script.steps v.step ≡ Some step → Arrives script.steps v
      → IsSentOf script v.step (longest_message v step)
  sent_at v step at arrives = record {
    values = longest_choice script.fields;
    admitted = extremes_are_admitted_longest script.fields;
    sends =
        (last_messages script (longest_choice script.fields) (longest_message v step) sound).1
        (v, arrives, record { at = step; of = at; is = refl });
    of = refl;
  }

  kept : (v : Visit) → Arrives script.steps v → Kept script lines v
  kept v arrives =
      let w = visits_are_within script v sound arrives in
      let from = w.from in
      let to = w.to in
      let long : length (line_figures lines) ≡ length script.steps = figures.long in
      let step = numbered_at script.steps v.step from to in
      let cell = numbered_at (line_figures lines) v.step from (omega arith) in
      by step.0 step.1 cell.0 cell.1 (figures.each v.step cell.0 cell.1)
    where
      by : (step : StepValue) → numbered script.steps v.step ≡ Some step → (cell : Option Reached)
          → numbered (line_figures lines) v.step ≡ Some cell → FiguresAre script v.step cell
          → Kept script lines v
      by step at None there are = absurd (are (longest_message v step) (sent_at v step at arrives))
      by step at (Some f) there are = record {
        step = step;
        at = at;
        figures = f;
        named = figures_named lines v.step f there;
        number = (are.most (longest_message v step) (sent_at v step at arrives)).0;
      }

  -- where runs enter a step, its number is enough
  entered : (n e : ℕ) → Reach script.steps (record { step = n; number = e; times = 1 })
      → IsEntered script.steps lines n e
  entered n e r =
      let k = kept (record { step = n; number = e; times = 1 }) ((runs_by_steps script.steps (record { step = n; number = e; times = 1 })).1 r) in
      let once = (numbered_holds (IsSoundStep script) script.steps n k.step sound.steps k.at).once in
      record {
        step = k.step;
        at = k.at;
        figures = k.figures;
        named = k.named;
        covers = record {
          once = k.number;
          often = λ again.
              let repeated = reach_repeated script.steps n e k.step (k.step.repeat - 1) k.at again (omega arith) r in
              let w : Visit = record { step = n; number = e + (k.step.repeat - 1); times = 1 + (k.step.repeat - 1) } in
              let h = kept w ((runs_by_steps script.steps w).1 repeated) in
              let same : h.figures ≡ k.figures = same_Some h.figures k.figures (sym h.named ∙ k.named) in
              subst (λ (f : Reached). e + (k.step.repeat - 1) ≤ f.number) same h.number;
        };
      }

  peak : (n : ℕ) (step : StepValue) (f : Reached) → numbered script.steps n ≡ Some step → Names lines n f
      → Peak script n step f
  peak n step f at named =
      let g : AreGreatestFigures script n f = figures.each n (Some f) (named_figures lines n f named) in
      let way = (last_messages script g.sent.values g.message sound).0 g.sent.sends in
      let is = way.2 in
      let here : way.0.step ≡ n = sym (ap (λ (x : Sent). x.step) is.is) ∙ g.sent.of in
      let same : is.at ≡ step = same_Some is.at step (sym is.of ∙ (ap (numbered script.steps) here ∙ at)) in
      let w = visits_are_within script way.0 sound way.1 in
      let to = w.to in
      let high = w.last in
      let few = sound.few_steps in
      record {
        visit = way.0;
        arrives = way.1;
        here = here;
        number = sym (ap (λ (x : Sent). x.number) is.is) ∙ g.number;
        low = w.first;
        high = omega arith;
        message = g.message;
        sent = g.sent;
        bytes = ap (λ (x : Sent). x.bytes) is.is ∙ ap (λ (s : StepValue). message_bytes script s way.0.number g.sent.values) same;
        size = g.size;
        most = λ m s. (g.most m s).1;
      }

  module _ (none : (f : Finding) → IsReal granted script f → ⊥) (clean : SentStepsAreClean granted script)
      (n : ℕ) (step : StepValue) (f : Reached) (at : numbered script.steps n ≡ Some step)
      (p : Peak script n step f) where
    view_is : IsMessage (message_bytes script step p.visit.number p.sent.values)
        (message_view script step p.visit.number p.sent.values)
    view_is = messages_are_read script (n - 1) step p.visit.number p.sent.values sound (numbered_from script.steps n step at) p.low p.high p.sent.admitted

    -- the message that has both figures breaks no rule
    never : (r : Rule) → Breaks granted (message_view script step p.visit.number p.sent.values) r 0 → ⊥
    never r b =
        let s = p.sent.sends in
        none (record { step = n; rule = r; segment = 0 }) (record {
          values = p.sent.values;
          answers = s.0;
          shown = record {
            admitted = p.sent.admitted;
            message = p.message;
            ends = s.1;
            of = p.sent.of;
            breaks = itself granted (came_after at_first s.1.sent s.0) p.message r 0 (record {
              message = message_view script step p.visit.number p.sent.values;
              is = subst (λ (t : List ℕ). IsMessage t (message_view script step p.visit.number p.sent.values)) (sym p.bytes) view_is;
              breaks = b;
            });
          };
        })

    -- what its figures break the message does
    breaks_so : (r : Rule) → p.visit.number ≡ f.number
        → (message_view script step p.visit.number p.sent.values).size ≡ f.size
        → FiguresBreak granted.rows.bank (reached_figures f) r
        → BreaksByFigures granted (message_view script step p.visit.number p.sent.values) r
    breaks_so Number number size (inl none) = inl (number ∙ none)
    breaks_so Number number size (inr past) = inr (omega (arith, past, number))
    breaks_so Size number size b = (b.0, omega (arith, b.1, size))
    breaks_so _ number size b = absurd b

    goes_on : (to : Target) → IsOpenTo step.branches step.otherwise to → GoesOn script.steps lines f.number to
    goes_on (Step to) can =
        let there : numbered script.steps p.visit.step ≡ Some step = ap (numbered script.steps) p.here ∙ at in
        let leads = (open_branches_lead step.branches step.otherwise (Step to)).1 can in
        let next = reach_step script.steps p.visit step to there leads
        ((runs_by_steps script.steps p.visit).0 p.arrives) in
        subst (λ (k : ℕ). IsEntered script.steps lines to (k + 1)) p.number (entered to (p.visit.number + 1) next)
    goes_on Again can = tt
    goes_on Stop can = tt

    holds : LineHolds granted script lines step f
    holds =
        let number = p.number in
        let here : numbered script.steps p.visit.step ≡ Some step = ap (numbered script.steps) p.here ∙ at in
        let worst =
        p.most (longest_message p.visit step)
        (subst (λ (k : ℕ). IsSentOf script k (longest_message p.visit step)) p.here (sent_at p.visit step here p.arrives)) in
        let is : length (message_bytes script step p.visit.number p.sent.values) ≡ f.size = sym (ap length p.bytes) ∙ p.size in
        let whole = view_is.size in
        record {
          permitted = λ r b. never r (inl (refl, breaks_so r number (omega (arith, is, whole)) b));
          size = subst (λ (k : ℕ). worst_len script step k ≤ f.size) number worst;
          clean = clean n step p.message at p.sent;
          onward = λ branch is_open. goes_on (target_of step.branches step.otherwise branch) (record { branch = branch; is_open = is_open; to = refl });
        }

  pub closes : line_names lines ≡ step_names script.steps → AreFindings granted script []
      → SentStepsAreClean granted script → SentStepsAreReleased script
      → IsClosedCertificate granted script lines
  closes names none clean released = record {
    names = names;
    first = entered 1 1 first;
    each =
        λ n step f at named. holds (nothing_real granted script [] none refl) clean n step f at
        (peak n step f at named);
    released = λ t s f named u.
        let g : AreGreatestFigures script t f = figures.each t (Some f) (named_figures lines t f named) in
        released t s g.message g.sent u;
  }
