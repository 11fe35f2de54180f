-- The sources that a whole pass has kept.
use Rattle.std.proofs.Common.{ℕ, ◌+◌, ◌<◌, ◌≡◌, Option, Some, List, length, sym, subst, ◌∙◌, arith, inl, inr}
use Rattle.std.proofs.lemmas.Option.{same_Some}
use Rattle.fints_script.specs.Numbered.{numbered, numbered_at, numbered_within}
use Rattle.fints_script.specs.Steps.{StepValue}
use Rattle.fints_script_cases.specs.declared.answers.Target.TheVariants.{Step}
use Rattle.fints_check_reach.specs.Numbers.{Has}
use Rattle.fints_check_reach.specs.Sources.{AreSources, ComesFrom, EndsRow}
use Rattle.fints_check_reach.proofs.PassLemmas.{Pass}
use Rattle.fints_check_reach.proofs.Scripts.{IsScript, lead_forward}

-- a table has one number for a step
pub one_number : (numbers : List (Option ℕ)) (n e f : ℕ) → Has numbers n e → Has numbers n f → e ≡ f
one_number numbers n e f h k = same_Some e f (same_Some (Some e) (Some f) (sym h ∙ k))

module _ (steps : List StepValue) (entries sources figures : List (Option ℕ)) (script : IsScript steps)
    (s : Pass steps entries sources figures (length steps)) where
  -- an answer leads on, so the step that it leads to comes later
  come_from : (n t : ℕ) → Has sources n t → ComesFrom steps figures n t
  come_from n t h =
      let from = s.froms n t h in
      let forward = lead_forward steps t from.step (Step n) script from.at from.leads_here in
      let low = (numbered_within steps t from.step from.at).0 in
      let next = numbered_at steps n (let above = forward.0 in omega arith) forward.1 in
      let g = (s.onward_from t n from.number from.step from.at from.has from.leads_here).passed forward.1 in
      let row = s.rows n g.0 next.0 next.1 g.1 in
      let same : row.0 ≡ from.number + 1 = one_number entries n row.0 (from.number + 1) row.1 from.entered in
      record {
        before = forward.0;
        step = from.step;
        at = from.at;
        number = from.number;
        has = from.has;
        leads_here = from.leads_here;
        next = next.0;
        there = next.1;
        greatest = g.0;
        is = g.1;
        row = subst (λ k. EndsRow next.0 k g.0) same row.2;
      }

  -- nothing leads to the first step
  first_row : (step : StepValue) (number : ℕ) → numbered steps 1 ≡ Some step → Has figures 1 number
      → EndsRow step 1 number
  first_row step number at has =
      let row = s.rows 1 number step at has in
      elim (s.began 1 row.0 row.1) [
        | inl one ↦ subst (λ k. EndsRow step k number) one.1 row.2
        | inr source ↦
            let from = come_from 1 source.0 source.1 in
            let low = (numbered_within steps source.0 from.step from.at).0 in
            let above = from.before in
            absurd (omega arith)
      ]

  some_source : (n number : ℕ) → 1 < n → Has figures n number → (t : ℕ) × Has sources n t
  some_source n number above has =
      let within = numbered_within figures n (Some number) has in
      let step = numbered_at steps n within.0 (let high = within.1 in omega (arith, s.kept)) in
      let row = s.rows n number step.0 step.1 has in
      elim (s.began n row.0 row.1) [ inl one ↦ absurd (omega (arith, one.0)) | inr source ↦ source ]

  pub pass_sources : AreSources steps figures sources
  pass_sources = record { long = s.wide; first = first_row; some = some_source; each = come_from }
