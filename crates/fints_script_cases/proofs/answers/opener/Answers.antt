use Rattle.std.proofs.Common.{ℕ, ◌<◌, ◌≡◌, ◌+◌, ◌*◌, ◌/◌, refl, sym, subst, arith, inl, inr}
use Rattle.std.proofs.lemmas.Bool.{false≢true, cases_lt}
use Rattle.fints_script_cases.specs.Answers.{IsOpener}
use Rattle.fints_script_cases.specs.CodeBlocks.{NoneBelow}
use Rattle.fints_script_cases.proofs.Firing.{open_by, not_open}
use Rattle.fints_script_cases.proofs.answers.opener.Goals as goal

pub returns-in_default-barren_block-clause-open : goal.returns-in_default-barren_block-clause-open
returns-in_default-barren_block-clause-open c =
    (λ _. open_by _ _ _ c.args.at.from c.args.at.to c.in_default-barren_block.ensures, λ _. refl)

pub returns-in_default-barren_block-clause-least : goal.returns-in_default-barren_block-clause-least
returns-in_default-barren_block-clause-least c = record {
  opens = c.in_default-barren_block.ensures;
  least = λ other o. elim (cases_lt other c.loop-code.number) [
    | inl h ↦ absurd (c.loop-code.invariant other h o)
    | inr h ↦ omega (arith, c.in-Some.ensures)
  ];
}

pub loop-code-preserved : goal.loop-code-preserved
loop-code-preserved c =
    let same : c.in-Some.code ≡ c.loop-code.number = c.in-Some.ensures.1 in
    let size : ℕ = c.in-Some-barren_block.size in
    let below : NoneBelow c.args.at.branches.now c.args.at.branch c.in-Some.code =
    subst (NoneBelow c.args.at.branches.now c.args.at.branch) (sym same) c.loop-code.invariant in
    subst (λ (n : ℕ). NoneBelow c.args.at.branches.now c.args.at.branch ((n / size + 1) * size)) same (c.in-Some-barren_block.ensures.none below)

pub returns-clause-open : goal.returns-clause-open
returns-clause-open c =
    let none : (code : ℕ) → code < 10000 → IsOpener c.args.at.branches.now c.args.at.branch code → ⊥ = λ code small o. elim (cases_lt c.loop-code.number 10000) [
      | inl h ↦ absurd (c.in_default.ensures h)
      | inr h ↦ c.loop-code.invariant code (omega arith) o
    ] in
    (λ e. absurd (false≢true e), λ way. absurd (not_open c.args.at.branches.now c.args.at.branch none way))
