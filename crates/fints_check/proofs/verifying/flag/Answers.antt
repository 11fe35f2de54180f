use Rattle.std.proofs.Common.{ℕ, ◌≡◌, false, true, Some, subst, sym}
use Rattle.std.specs.Prelude.{◌↔◌, IsTrue}
use Rattle.std.proofs.lemmas.Bool.{false≢true}
use Rattle.fints_script.specs.Numbered.{numbered}
use Rattle.fints_check.proofs.verifying.flag.Goals as goal

pub returns-then-n-eq0 : goal.returns-then-n-eq0
returns-then-n-eq0 c =
    subst (λ (n : ℕ). IsTrue false ↔ (numbered c.args.flags.now n ≡ Some true)) (sym c.if-n-eq0.true)
    (λ t. absurd (false≢true t), λ found. absurd cc)
