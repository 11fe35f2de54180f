use Rattle.std.proofs.Common.{◌≡◌, ◌∙◌, sym, ℕ}
use Rattle.std.specs.Bool.{Decides}
use Rattle.std.specs.Cmp.{unsigned_Decides}
use Rattle.std.specs.Cmp.Lexicographic.{pointwise_decides}
use Rattle.fints_params.specs.contracts.code.CodePartialEq.TheImpl.{eq-value}
use Rattle.fints_cli_drafts.proofs.drafting.has_same_codes.Goals as goal

code_decides : (a b : ℕ) → Decides (eq-value.it a b) (a ≡ b)
code_decides a b = unsigned_Decides a b

pub returns : goal.returns
returns c =
    let lists = pointwise_decides code_decides c.codes.result.now c.codes-2.result.now in
    λ h. sym c.codes.ensures.codes ∙ lists.0 (sym c.eq.ensures ∙ h) ∙ c.codes-2.ensures.codes
