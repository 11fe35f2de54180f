-- Answers lead to steps that exist.
use Rattle.std.proofs.Common.{ℕ, ◌≡◌, Bool, true, false, cond, Option, Some, List, [], ◌∷◌, length}
use Rattle.std.proofs.lemmas.List.Elements.{All-head, All-tail}
use Rattle.std.specs.List.{All, find}
use Rattle.std.specs.Option.{option_map_or}
use Rattle.fints_script_cases.specs.Answers.{matches_some}
use Rattle.fints_script.specs.Scripts.{ScriptValue}
use Rattle.fints_script.specs.Sound.{IsSound, IsOnward}
use Rattle.fints_script.specs.Numbered.{numbered}
use Rattle.fints_script.specs.Steps.{StepValue}
use Rattle.fints_script_cases.specs.declared.answers.Branch.{Branch}
use Rattle.fints_script_cases.specs.declared.answers.Target.{Target}
use Rattle.fints_wire.specs.Runs.{answered}

one_target : (P : Target → Type 0) (b : Bool) (x : Branch) (found : Option Branch) (otherwise : Target)
    → P x.to → P (option_map_or (λ (branch : Branch). branch.to) found otherwise)
    → P (option_map_or (λ (branch : Branch). branch.to) (cond b (Some x) found) otherwise)
one_target P true x found otherwise here later = here
one_target P false x found otherwise here later = later

-- where the found branch leads, or the default
pub found_target : (P : Target → Type 0) (p : Branch → Bool) (branches : List Branch) (otherwise : Target)
    → All (λ (branch : Branch). P branch.to) branches → P otherwise
    → P (option_map_or (λ (branch : Branch). branch.to) (find p branches) otherwise)
found_target P p [] otherwise each o = o
found_target P p (x ∷ xs) otherwise each o =
    one_target P (p x) x (find p xs) otherwise (All-head (λ (branch : Branch). P branch.to) x xs each)
    (found_target P p xs otherwise (All-tail (λ (branch : Branch). P branch.to) x xs each) o)

-- wherever an answer leads
pub answered_onward : (script : ScriptValue) (n : ℕ) (step : StepValue) (codes : List ℕ) → IsSound script
    → numbered script.steps n ≡ Some step → IsOnward (length script.steps) n (answered step codes)
answered_onward script n step codes sound at =
    let leads_on = sound.onward n step at in
    found_target (IsOnward (length script.steps) n) (matches_some codes) step.branches step.otherwise leads_on.branches leads_on.otherwise
