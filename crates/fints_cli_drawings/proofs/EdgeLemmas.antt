-- Branches one more, and where they lead.
use Rattle.std.proofs.Common.{◌≡◌, ◌∙◌, ◌+◌, ◌-◌, ℕ, zero, suc, List, [], ◌∷◌, ◌++◌, ap, sym, arith, All, append_assoc}
use Rattle.std.specs.Prelude.{slice_get}
use Rattle.std.specs.List.{flat_map, range_with_len}
use Rattle.std.specs.Option.{option_map_or}
use Rattle.std.proofs.lemmas.List.{append-nil}
use Rattle.std.proofs.lemmas.List.Concat.{flat_map-append}
use Rattle.std.proofs.lemmas.List.Elements.{All-nil, All-cons, All-head, All-tail}
use Rattle.fints_script_cases.specs.Answers.{target_of}
use Rattle.fints_script_cases.specs.declared.answers.Branch.{Branch}
use Rattle.fints_script_cases.specs.declared.answers.Target.{Target}
use Rattle.fints_script_cases.specs.declared.answers.Target.TheVariants as targets
use Rattle.fints_script.specs.Sound.{IsOnward, LeadsOnward}
use Rattle.fints_script.specs.Steps.{StepValue}

-- ---- numbers one more

range_more : (a n : ℕ) → range_with_len a (suc n) ≡ range_with_len a n ++ (a + n) ∷ []
range_more a zero = let same : a ≡ a + 0 = omega arith in ap (λ (k : ℕ). k ∷ []) same
range_more a (suc n) =
    let same : a + 1 + n ≡ a + suc n = omega arith in
    ap (λ (ks : List ℕ). a ∷ ks) (range_more (a + 1) n ∙ ap (λ (k : ℕ). range_with_len (a + 1) n ++ k ∷ []) same)

-- what is written of one number more
pub one_more : (line : ℕ → List ℕ) (n : ℕ) (old mid new : List ℕ)
    → mid ≡ old ++ flat_map line (range_with_len 1 n) → new ≡ mid ++ line (n + 1)
    → new ≡ old ++ flat_map line (range_with_len 1 (n + 1))
one_more line n old mid new before now =
    let same : 1 + n ≡ n + 1 = omega arith in
    let next : n + 1 ≡ suc n = omega arith in
    let more : flat_map line (range_with_len 1 (n + 1)) ≡ flat_map line (range_with_len 1 n) ++ line (n + 1) =
    ap (λ (k : ℕ). flat_map line (range_with_len 1 k)) next
    ∙ ap (flat_map line) (range_more 1 n)
    ∙ flat_map-append line (range_with_len 1 n) ((1 + n) ∷ [])
    ∙ ap (λ (l : List ℕ). flat_map line (range_with_len 1 n) ++ l) (append-nil (line (1 + n)) ∙ ap line same) in
    now
    ∙ ap (λ (l : List ℕ). l ++ line (n + 1)) before
    ∙ append_assoc old (flat_map line (range_with_len 1 n)) (line (n + 1))
    ∙ ap (λ (l : List ℕ). old ++ l) (sym more)

-- ---- where branches lead

-- what leads onward from step n leads to a step that exists
onward_any : (count n : ℕ) (to : Target) → IsOnward count n to → IsOnward count 0 to
onward_any count n (targets.Step s) h = (omega (arith, h.0), h.1)
onward_any count n targets.Again h = tt
onward_any count n targets.Stop h = tt

each_any : (count n : ℕ) (branches : List Branch)
    → All (λ (branch : Branch). IsOnward count n branch.to) branches
    → All (λ (branch : Branch). IsOnward count 0 branch.to) branches
each_any count n [] h = All-nil (λ (branch : Branch). IsOnward count 0 branch.to)
each_any count n (x ∷ xs) h =
    All-cons (λ (branch : Branch). IsOnward count 0 branch.to) x xs
    (onward_any count n x.to (All-head (λ (branch : Branch). IsOnward count n branch.to) x xs h))
    (each_any count n xs (All-tail (λ (branch : Branch). IsOnward count n branch.to) x xs h))

pub leads_any : (count n : ℕ) (step : StepValue) → LeadsOnward count n step → LeadsOnward count 0 step
leads_any count n step h = record {
  branches = each_any count n step.branches h.branches;
  otherwise = onward_any count n step.otherwise h.otherwise;
}

at_branch : (count i : ℕ) (branches : List Branch) (otherwise : Target)
    → All (λ (branch : Branch). IsOnward count 0 branch.to) branches → IsOnward count 0 otherwise
    → IsOnward count 0 (option_map_or (λ (branch : Branch). branch.to) (slice_get branches i) otherwise)
at_branch count i [] otherwise h last = last
at_branch count zero (x ∷ xs) otherwise h last = All-head (λ (branch : Branch). IsOnward count 0 branch.to) x xs h
at_branch count (suc i) (x ∷ xs) otherwise h last =
    at_branch count i xs otherwise (All-tail (λ (branch : Branch). IsOnward count 0 branch.to) x xs h) last

-- where a branch leads is a step that exists, or the end
pub branch_onward : (count b : ℕ) (step : StepValue) → LeadsOnward count 0 step
    → IsOnward count 0 (target_of step.branches step.otherwise b)
branch_onward count b step h = at_branch count (b - 1) step.branches step.otherwise h.branches h.otherwise
