-- The faults of a plan's segments and steps, one by one.
use Rattle.std.proofs.Common.{◌≡◌, ℕ, ◌+◌, ◌<◌, List, [], ◌∷◌, ◌++◌, length, get_or, drop, Option, Some, None, zero, suc, ap, subst, sym, ◌∙◌, refl, arith}
use Rattle.std.proofs.lemmas.List.{drop_more}
use Rattle.std.proofs.lemmas.List.Concat.{flat_map-cons}
use Rattle.std.specs.List.{cons_option, enumerate_from, flat_map, slice_get}
use Rattle.std.specs.Option.{option_map}
use Rattle.fints_rules_permissions.specs.declared.orders.OrderRow.{OrderRow}
use Rattle.fints_script_rows.specs.declared.fields.NamedField.{NamedField}
use Rattle.fints_script.specs.Plans.{open_fault, open_of, faults_in_segments, faults_in_step}
use Rattle.fints_script.specs.Steps.{StepValue}
use Rattle.fints_script.specs.declared.opens.OpenPart.{OpenPart}
use Rattle.fints_script.specs.declared.opens.PlanFault.{PlanFault}
use Rattle.fints_script_templates.specs.declared.template.Template.{Template}

-- ---- the first of a list

pub none_first : {X : Type 0} (xs : List X) → None ≡ slice_get xs 0 → xs ≡ []
none_first [] h = refl
none_first (x ∷ xs) h = cc

pub some_first : {X : Type 0} (xs : List X) (x : X) → Some x ≡ slice_get xs 0
    → (later : List X) × (xs ≡ x ∷ later)
some_first [] x h = cc
some_first (y ∷ xs) x h = (xs, ap (λ z. z ∷ xs) (same h))
  where
    same : Some x ≡ Some y → y ≡ x
    same e = cc

-- ---- what is left where nothing is

cons_none : {X : Type 0} (o : Option X) (xs : List X) → cons_option o xs ≡ [] → (o ≡ None) × (xs ≡ [])
cons_none None xs h = (refl, h)
cons_none (Some x) xs h = cc

map_none : {X Y : Type 0} (f : X → Y) (o : Option X) → option_map f o ≡ None → o ≡ None
map_none f None h = refl
map_none f (Some x) h = cc

append_none : {X : Type 0} (xs ys : List X) → xs ++ ys ≡ [] → (xs ≡ []) × (ys ≡ [])
append_none [] ys h = (refl, h)
append_none (x ∷ xs) ys h = cc

some_is : {X : Type 0} (x y : X) → Some x ≡ Some y → x ≡ y
some_is x y h = cc

module _ (fields : List NamedField) (orders : List OrderRow) where
  -- ---- the segments of step n

  module _ (n : ℕ) where
    -- the fault of a segment of this number, if it leaves this open, before those of the others
    abbrev with_fault : ℕ → Option OpenPart → List PlanFault → List PlanFault
    with_fault at left others = cons_option (option_map (λ left. open_fault left n at) left) others

    one_more : (first i : ℕ) (ts : List Template) (d : Template) → i < length ts
        → faults_in_segments fields orders n (first + i) (drop i ts) ≡ with_fault (first + i)
        (open_of fields orders (get_or ts i d))
        (faults_in_segments fields orders n (first + (i + 1)) (drop (i + 1) ts))
    one_more first i ts d lt =
        let next : first + i + 1 ≡ first + (i + 1) = omega arith in
        ap (faults_in_segments fields orders n (first + i)) (drop_more ts i d lt)
        ∙ ap (λ k. with_fault (first + i) (open_of fields orders (get_or ts i d)) (faults_in_segments fields orders n k (drop (i + 1) ts))) next

    pub segment_open : (first i : ℕ) (ts : List Template) (d : Template) (left : OpenPart) → i < length ts
        → open_of fields orders (get_or ts i d) ≡ Some left
        → faults_in_segments fields orders n (first + i) (drop i ts) ≡ open_fault left n
        (first + i) ∷ faults_in_segments fields orders n (first + (i + 1)) (drop (i + 1) ts)
    segment_open first i ts d left lt is =
        one_more first i ts d lt ∙ ap (λ o. with_fault (first + i) o (faults_in_segments fields orders n (first + (i + 1)) (drop (i + 1) ts))) is

    pub segment_closed : (first i : ℕ) (ts : List Template) (d : Template) → i < length ts
        → open_of fields orders (get_or ts i d) ≡ None
        → faults_in_segments fields orders n (first + i) (drop i ts) ≡ faults_in_segments fields orders n
        (first + (i + 1)) (drop (i + 1) ts)
    segment_closed first i ts d lt is =
        one_more first i ts d lt ∙ ap (λ o. with_fault (first + i) o (faults_in_segments fields orders n (first + (i + 1)) (drop (i + 1) ts))) is

    -- of segments without a fault none leaves anything open
    pub none_open : (first : ℕ) (ts : List Template) (i : ℕ) (t : Template)
        → faults_in_segments fields orders n first ts ≡ [] → slice_get ts i ≡ Some t
        → open_of fields orders t ≡ None
    none_open first [] i t none at = absurd cc
    none_open first (x ∷ ts) zero t none at =
        let here = cons_none (option_map (λ left. open_fault left n first) (open_of fields orders x)) (faults_in_segments fields orders n (first + 1) ts) none in
        subst (λ y. open_of fields orders y ≡ None) (some_is x t at) (map_none (λ left. open_fault left n first) (open_of fields orders x) here.0)
    none_open first (x ∷ ts) (suc i) t none at =
        let here = cons_none (option_map (λ left. open_fault left n first) (open_of fields orders x)) (faults_in_segments fields orders n (first + 1) ts) none in
        none_open (first + 1) ts i t here.1 at

  -- ---- the steps

  abbrev pub faults_from : ℕ → List StepValue → List PlanFault
  faults_from k steps = flat_map (λ (p : ℕ × StepValue). faults_in_step fields orders p.0 p.1) (enumerate_from k steps)

  first_more : (k : ℕ) (step : StepValue) (steps : List StepValue)
      → faults_from k (step ∷ steps) ≡ faults_in_step fields orders k step ++ faults_from (k + 1) steps
  first_more k step steps = flat_map-cons (λ (p : ℕ × StepValue). faults_in_step fields orders p.0 p.1) (k, step) (enumerate_from (k + 1) steps)

  pub step_more : (i : ℕ) (steps : List StepValue) (d : StepValue) → i < length steps
      → faults_from (i + 1) (drop i steps) ≡ faults_in_step fields orders (i + 1)
      (get_or steps i d) ++ faults_from (i + 1 + 1) (drop (i + 1) steps)
  step_more i steps d lt = ap (faults_from (i + 1)) (drop_more steps i d lt) ∙ first_more (i + 1) (get_or steps i d) (drop (i + 1) steps)

  -- of steps without a fault none has one
  pub none_at : (k : ℕ) (steps : List StepValue) (i : ℕ) (step : StepValue) → faults_from k steps ≡ []
      → slice_get steps i ≡ Some step → (n : ℕ) × (faults_in_step fields orders n step ≡ [])
  none_at k [] i step none at = absurd cc
  none_at k (x ∷ steps) zero step none at =
      let here = append_none (faults_in_step fields orders k x) (faults_from (k + 1) steps) (sym (first_more k x steps) ∙ none) in
      (k, subst (λ y. faults_in_step fields orders k y ≡ []) (some_is x step at) here.0)
  none_at k (x ∷ steps) (suc i) step none at =
      let here = append_none (faults_in_step fields orders k x) (faults_from (k + 1) steps) (sym (first_more k x steps) ∙ none) in
      none_at (k + 1) steps i step here.1 at
