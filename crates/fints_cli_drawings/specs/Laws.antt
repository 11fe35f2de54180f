-- The law of the codes that a picture shows of branches. It is the contract of a public function.
use Rattle.std.specs.Prelude.{◌≡◌, ◌↔◌, ℕ, List, IfSome, None}
use Rattle.fints_script_cases.specs.Answers.{IsLeastOpener, IsOpen}
use Rattle.fints_script_cases.specs.declared.answers.Branch.{Branch}
use Rattle.fints_cli_drawings.specs.Openers.{opener_of}

-- a branch has no such code exactly where no answer fires it; and the code that it has is the least that
-- matches it and no earlier branch
pub record OpenersAreLeast (branches : List Branch) (b : ℕ) : Type 0 where
  pub closed : (opener_of branches b ≡ None) ↔ (IsOpen branches b → ⊥)
  pub least : IfSome (opener_of branches b) (IsLeastOpener branches b)
