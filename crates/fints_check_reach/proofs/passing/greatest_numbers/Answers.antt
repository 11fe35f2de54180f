use Rattle.std.proofs.Common.{◌≡◌, ◌+◌, length, ℕ, Option, Some, None, List, [], ◌∷◌, ◌++◌, map, arith, subst, sym, ap, ◌∙◌, refl, replicate, set}
use Rattle.std.specs.List.{slice_get}
use Rattle.std.specs.Prelude.{is_some}
use Rattle.std.proofs.lemmas.List.{length-map, length-replicate, length-set, map-append}
use Rattle.fints_script.specs.Numbered.{numbered_at, numbered_from}
use Rattle.fints_check_reach.specs.Numbers.{looked_at}
use Rattle.fints_check_reach.proofs.PassLemmas.{Pass, pass_none, pass_more, pass_greatest, entered_small}
use Rattle.fints_check_reach.proofs.SourceLemmas.{pass_sources}
use Rattle.fints_check_reach.specs.Following.{AreBehind}
use Rattle.fints_check_reach.proofs.Keeping.{behind_more, behind_none}
use Rattle.fints_check_reach.proofs.Blanks.{first_alone, first_there}
use Rattle.fints_check_reach.proofs.Scripts.{script_of}
use Rattle.fints_check_reach.proofs.Visits.{few_visits, looked_at_push, none_looked_at}
use Rattle.fints_wire.proofs.RunLawLemmas.{runs_by_steps, visits_are_within}
use Rattle.fints_script.proofs.LawLemmas.{sound_of}
use Rattle.fints_check_reach.proofs.passing.greatest_numbers.Goals as goal

pub loop-i-init : goal.loop-i-init
loop-i-init c =
    let script = c.args.plan.now.script in
    let steps = script.steps in
    let count = c.step_count-count.result in
    let blank : List (Option ℕ) = replicate count None in
    let all : c.in_ok-entries.entries.items ≡ blank = c.in_ok-entries.ensures in
    let some = (sound_of c.step_count-count.ensures.read).some_steps in
    let long : length (set blank 0 (Some 1)) ≡ length steps = length-set blank 0 (Some 1) ∙ (length-replicate count None ∙ c.step_count-count.ensures.count) in
    let first =
    pass_none steps count (set blank 0 (Some 1)) c.in_ok-sources.sources.items
    (sym c.step_count-count.ensures.count) long c.in_ok-sources.ensures
    (first_there count 1 (omega (arith, some, c.step_count-count.ensures.count)))
    (first_alone count 1) in
    record {
      pass =
          subst
          (λ (xs : List (Option ℕ)).
          Pass steps (set c.in_ok-entries.entries.items 0 (Some 1)) c.in_ok-sources.sources.items xs 0)
          (sym c.in_ok-greatest.ensures.items)
          (subst (λ (xs : List (Option ℕ)). Pass steps (set xs 0 (Some 1)) c.in_ok-sources.sources.items [] 0) (sym all) first);
      behind =
          subst
          (λ (xs : List (Option ℕ)).
          AreBehind steps xs c.args.marks.now c.args.code c.in_ok-behind.behind.items)
          (sym c.in_ok-greatest.ensures.items)
          (subst (AreBehind steps [] c.args.marks.now c.args.code) (sym c.in_ok-behind.ensures)
          (behind_none steps c.args.marks.now c.args.code count c.step_count-count.ensures.count));
      visits = sym (ap (λ (xs : List (Option ℕ)). looked_at steps (map is_some xs)) c.in_ok-greatest.ensures.items ∙ none_looked_at steps);
    }

pub index_mut-requires : goal.index_mut-requires
index_mut-requires c =
    let some = (sound_of c.step_count-count.ensures.read).some_steps in
    let long = ap length c.in_ok-entries.ensures ∙ length-replicate c.step_count-count.result None in
    omega (arith, some, c.step_count-count.ensures.count, long)

pub pass_step-number-requires-clause-small : goal.pass_step-number-requires-clause-small
pass_step-number-requires-clause-small c e h =
    entered_small c.args.plan.now.script c.loop-i.entries.items c.loop-i.sources.items c.loop-i.greatest.items
    c.loop-i.i (c.loop-i.i + 1) e (sound_of c.step_count-count.ensures.read)
    (runs_by_steps c.args.plan.now.script.steps)
    (λ v. visits_are_within c.args.plan.now.script v (sound_of c.step_count-count.ensures.read))
    c.loop-i.invariant.pass h

pub pass_step-number-requires-clause-room : goal.pass_step-number-requires-clause-room
pass_step-number-requires-clause-room c =
    let script = c.args.plan.now.script in
    let few =
    few_visits script (map is_some c.loop-i.greatest.items) (sound_of c.step_count-count.ensures.read)
    (omega (
      arith,
      length-map c.loop-i.greatest.items is_some,
      c.loop-i.invariant.pass.kept,
      c.step_count-count.ensures.count,
    )) in
    omega (arith, few, c.loop-i.invariant.visits)

pub pass_step-number-requires-clause-kept : goal.pass_step-number-requires-clause-kept
pass_step-number-requires-clause-kept c = c.loop-i.invariant.behind.long

pub loop-i-preserved : goal.loop-i-preserved
loop-i-preserved c =
    let steps = c.args.plan.now.script.steps in
    let here = numbered_at steps (c.loop-i.i + 1) (omega arith) (omega (arith, c.step_count-count.ensures.count)) in
    let step = here.0 in
    let at = here.1 in
    let more =
    pass_more steps c.loop-i.entries.items c.pass_step-number.new.entries.items c.loop-i.sources.items
    c.pass_step-number.new.sources.items c.loop-i.greatest.items c.pass_step-number.result c.loop-i.i
    (c.loop-i.i + 1) step refl at
    (c.pass_step-number.ensures.passed step at) c.loop-i.invariant.pass.kept
    (script_of c.args.plan.now.script (sound_of c.step_count-count.ensures.read))
    c.loop-i.invariant.pass in
    let there : slice_get steps (length (map is_some c.loop-i.greatest.items)) ≡ Some step =
    subst (λ (k : ℕ). slice_get steps k ≡ Some step)
    (omega (arith, length-map c.loop-i.greatest.items is_some, c.loop-i.invariant.pass.kept))
    (numbered_from steps (c.loop-i.i + 1) step at) in
    record {
      pass =
          subst
          (λ (xs : List (Option ℕ)).
          Pass steps c.pass_step-number.new.entries.items c.pass_step-number.new.sources.items xs
          (c.loop-i.i + 1))
          (sym c.in_ok-push.ensures.items) more;
      behind =
          subst
          (λ (xs : List (Option ℕ)).
          AreBehind steps xs c.args.marks.now c.args.code c.pass_step-number.new.behind.items)
          (sym c.in_ok-push.ensures.items)
          (behind_more steps c.loop-i.greatest.items c.args.marks.now c.args.code (c.loop-i.i + 1)
          c.pass_step-number.result c.loop-i.behind.items c.pass_step-number.new.behind.items
          step (omega (arith, c.loop-i.invariant.pass.kept)) at
          (c.pass_step-number.ensures.behind step at) c.loop-i.invariant.behind);
      visits =
          let pushed = looked_at_push steps (map is_some c.loop-i.greatest.items) (is_some c.pass_step-number.result) step there in
          let items : looked_at steps (map is_some c.push.new.self.items) ≡ looked_at steps
          (map is_some c.loop-i.greatest.items ++ is_some c.pass_step-number.result ∷ []) =
          ap (λ (xs : List (Option ℕ)). looked_at steps (map is_some xs)) c.in_ok-push.ensures.items
          ∙ ap (looked_at steps)
          (map-append is_some c.loop-i.greatest.items (c.pass_step-number.result ∷ [])) in
          omega (arith, pushed, items, c.loop-i.invariant.visits, c.pass_step-number.ensures.counted step at);
    }

pub returns-clause-greatest : goal.returns-clause-greatest
returns-clause-greatest c =
    let last : c.loop-i.i ≡ length c.args.plan.now.script.steps = omega (arith, c.step_count-count.ensures.count) in
    pass_greatest c.args.plan.now.script.steps c.loop-i.entries.items c.loop-i.sources.items
    c.loop-i.greatest.items (runs_by_steps c.args.plan.now.script.steps)
    (script_of c.args.plan.now.script (sound_of c.step_count-count.ensures.read))
    (subst (λ i. Pass c.args.plan.now.script.steps c.loop-i.entries.items c.loop-i.sources.items c.loop-i.greatest.items i) last c.loop-i.invariant.pass)

pub returns-clause-sources : goal.returns-clause-sources
returns-clause-sources c =
    let last : c.loop-i.i ≡ length c.args.plan.now.script.steps = omega (arith, c.step_count-count.ensures.count) in
    pass_sources c.args.plan.now.script.steps c.loop-i.entries.items c.loop-i.sources.items
    c.loop-i.greatest.items (script_of c.args.plan.now.script (sound_of c.step_count-count.ensures.read))
    (subst (λ i. Pass c.args.plan.now.script.steps c.loop-i.entries.items c.loop-i.sources.items c.loop-i.greatest.items i) last c.loop-i.invariant.pass)
