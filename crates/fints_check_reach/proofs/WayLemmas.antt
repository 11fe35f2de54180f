-- The way back from a step to the first, and the answers that lead forth.
use Rattle.std.proofs.Common.{ℕ, ◌+◌, ◌-◌, ◌<◌, ◌≤◌, ◌≡◌, Option, Some, List, [], ◌∷◌, ◌++◌, length, refl, sym, subst, ◌∙◌, arith}
use Rattle.std.proofs.lemmas.List.Elements.{All-cons, All-nil}
use Rattle.std.proofs.lemmas.Option.{same_Some}
use Rattle.fints_script_cases.specs.Answers.{IsAnswer}
use Rattle.fints_script_cases.specs.declared.answers.Target.{Target}
use Rattle.fints_script_cases.specs.declared.answers.Target.TheVariants.{Again}
use Rattle.fints_script.specs.Numbered.{numbered, numbered_at, numbered_within}
use Rattle.fints_script.specs.Steps.{StepValue}
use Rattle.fints_wire.specs.Runs.{start, Enters, Follows, RouteTo}
use Rattle.fints_wire.specs.declared.dialogue.Visit.{Visit}
use Rattle.fints_check_reach.specs.Leading.{Leads}
use Rattle.fints_check_reach.specs.Numbers.{Has}
use Rattle.fints_check_reach.specs.Sources.{AreSources, EndsRow}
use Rattle.fints_check_reach.specs.Walking.{HasWay, IsCodeTo, IsWayBack}
use Rattle.fints_check_reach.specs.Ways.{EntersTo, LeadsTo}
use Rattle.fints_wire.proofs.RunLawLemmas.{routes_grow_more}
use Rattle.fints_check_reach.proofs.SourceLemmas.{one_number}

-- ---- back

-- one step more on the way back
pub back_more : (sources : List (Option ℕ)) (n : ℕ) (xs : List ℕ) (c s : ℕ) → IsWayBack sources n xs c
    → Has sources c s → IsWayBack sources n (xs ++ c ∷ []) s
back_more sources n [] c s back has = (back, (s, subst (λ k. Has sources k s) (sym back) has, refl))
back_more sources n (x ∷ xs) c s back has = (back.0, (back.1.0, back.1.1, back_more sources back.1.0 xs c s back.1.2 has))

-- the step that was found last is the first on the way forth
back_last : (sources : List (Option ℕ)) (n : ℕ) (xs : List ℕ) (x c : ℕ) → IsWayBack sources n (xs ++ x ∷ []) c
    → Has sources x c × IsWayBack sources n xs x
back_last sources n [] x c back =
    let has : Has sources n c = subst (λ k. Has sources n k) back.1.2 back.1.1 in
    (subst (λ k. Has sources k c) back.0 has, back.0)
back_last sources n (y ∷ ys) x c back =
    let rest = back_last sources back.1.0 ys x c back.1.2 in
    (rest.0, (back.0, (back.1.0, back.1.1, rest.1)))

pub back_next : (sources : List (Option ℕ)) (n : ℕ) (later rest : List ℕ) (next at : ℕ)
    → later ≡ rest ++ next ∷ [] → IsWayBack sources n later at
    → Has sources next at × IsWayBack sources n rest next
back_next sources n later rest next at is back = back_last sources n rest next at (subst (λ (xs : List ℕ). IsWayBack sources n xs at) is back)

-- where the way back has come to, there is a number
pub back_has : (steps : List StepValue) (numbers sources : List (Option ℕ)) → AreSources steps numbers sources
    → (n : ℕ) (xs : List ℕ) (c number : ℕ) → IsWayBack sources n xs c → Has numbers n number
    → (m : ℕ) × Has numbers c m
back_has steps numbers sources are n [] c number back has = (number, subst (λ k. Has numbers k number) back has)
back_has steps numbers sources are n (x ∷ xs) c number back has =
    let from = are.each n back.1.0 back.1.1 in
    back_has steps numbers sources are back.1.0 xs c from.number back.1.2 from.has

-- a source has a way as well, and comes before
pub source_way : (sources : List (Option ℕ)) (n s : ℕ) → HasWay sources n → Has sources n s → HasWay sources s
source_way sources n s w has =
    let from = w.are.each n s has in
    record {
      steps = w.steps;
      numbers = w.numbers;
      are = w.are;
      number = from.number;
      has = from.has;
      to = (numbered_within w.steps s from.step from.at).1;
    }

pub source_before : (sources : List (Option ℕ)) (n s : ℕ) → HasWay sources n → Has sources n s → s < n
source_before sources n s w has = (w.are.each n s has).before

pub way_high : (sources : List (Option ℕ)) (n : ℕ) → HasWay sources n → n ≤ length sources
way_high sources n w = let to = w.to in omega (arith, w.are.long)

-- ---- forth

one_answer : (code : ℕ) → code < 10000 → IsAnswer (code ∷ [])
one_answer code small = record { some = omega arith; each = All-cons (λ c. c < 10000) code [] small (All-nil (λ c. c < 10000)) }

code_leads : (step : StepValue) (to : Target) (code : ℕ) → IsCodeTo step to code → Leads step to
code_leads step to code is = record { codes = code ∷ []; answer = one_answer code is.small; leads_to = is.leads_there }

-- one message more of the row
pub row_more : (steps : List StepValue) (answers : List (List ℕ)) (n e k code : ℕ) (step : StepValue)
    → numbered steps n ≡ Some step → IsCodeTo step Again code → 1 + k < step.repeat
    → RouteTo steps answers (record { step = n; number = e + k; times = 1 + k })
    → RouteTo steps (answers ++ (code ∷ []) ∷ [])
    (record { step = n; number = e + (k + 1); times = 1 + (k + 1) })
row_more steps answers n e k code step at is room r =
    let v : Visit = record { step = n; number = e + k; times = 1 + k } in
    let w : Visit = record { step = n; number = (e + k) + 1; times = (1 + k) + 1 } in
    let f : Follows steps v (code ∷ []) w = record { step = step; at = at; enters = subst (λ t. Enters step.repeat v t w) (sym is.leads_there) (room, refl) } in
    let next = routes_grow_more steps answers (code ∷ []) v w r (one_answer code is.small) f in
    let number : (e + k) + 1 ≡ e + (k + 1) = omega arith in
    let times : (1 + k) + 1 ≡ 1 + (k + 1) = omega arith in
    subst (λ (p : ℕ). RouteTo steps (answers ++ (code ∷ []) ∷ []) (record { step = n; number = p; times = 1 + (k + 1) })) number
    (subst (λ (q : ℕ). RouteTo steps (answers ++ (code ∷ []) ∷ []) (record { step = n; number = (e + k) + 1; times = q })) times next)

module _ (steps : List StepValue) (numbers : List (Option ℕ)) (n : ℕ) (old : List (List ℕ))
    (e : EntersTo steps numbers n old) (step : StepValue) (at : numbered steps n ≡ Some step) where
  own_row : EndsRow step e.from e.number
  own_row = subst (λ (s : StepValue). EndsRow s e.from e.number) (same_Some e.step step (sym e.at ∙ at)) e.row

  -- a row of as many messages as there may be ends with the step's number
  pub row_full : (new : List (List ℕ)) (code : ℕ) → IsCodeTo step Again code
      → RouteTo steps new
      (record { step = n; number = e.from + (step.repeat - 1); times = 1 + (step.repeat - 1) })
      → LeadsTo steps numbers n new
  row_full new code is r =
      let end = own_row.repeated (code_leads step Again code is) in
      record {
        number = e.number;
        has = e.has;
        times = 1 + (step.repeat - 1);
        route =
            subst
            (λ (p : ℕ).
            RouteTo steps new (record { step = n; number = p; times = 1 + (step.repeat - 1) }))
            (sym end) r;
      }

-- the first message, with no answer
pub enters_first : (steps : List StepValue) (numbers sources : List (Option ℕ))
    → AreSources steps numbers sources → (number : ℕ) → Has numbers 1 number → 1 ≤ length steps
    → RouteTo steps [] start → EntersTo steps numbers 1 []
enters_first steps numbers sources are number has some r =
    let step = numbered_at steps 1 (omega arith) some in
    record { step = step.0; at = step.1; from = 1; number = number; row = are.first step.0 number step.1 has; has = has; route = r }

-- the first message of a step that comes from one whose greatest number was reached
pub enters_on : (steps : List StepValue) (numbers sources : List (Option ℕ))
    → AreSources steps numbers sources → (s n : ℕ) (old new : List (List ℕ)) → Has sources n s
    → LeadsTo steps numbers s old
    → ((number times : ℕ) → RouteTo steps old (record { step = s; number = number; times = times })
    → RouteTo steps new (record { step = n; number = number + 1; times = 1 }))
    → EntersTo steps numbers n new
enters_on steps numbers sources are s n old new has l goes =
    let from = are.each n s has in
    let same : l.number ≡ from.number = one_number numbers s l.number from.number l.has from.has in
    let r = goes l.number l.times l.route in
    record {
      step = from.next;
      at = from.there;
      from = from.number + 1;
      number = from.greatest;
      row = from.row;
      has = from.is;
      route = subst (λ k. RouteTo steps new (record { step = n; number = k + 1; times = 1 })) same r;
    }
