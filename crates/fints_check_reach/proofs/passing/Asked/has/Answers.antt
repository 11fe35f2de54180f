use Rattle.std.proofs.Common.{ℕ, false, subst, sym}
use Rattle.std.specs.Prelude.{◌↔◌, IsTrue}
use Rattle.std.proofs.lemmas.Bool.{false≢true}
use Rattle.fints_check_reach.specs.Passes.{Asks}
use Rattle.fints_check_reach.proofs.passing.Asked.has.Goals as goal

pub returns-then-n-eq0 : goal.returns-then-n-eq0
returns-then-n-eq0 c =
    subst (λ (n : ℕ). IsTrue false ↔ Asks c.args.self.now.marks.now n) (sym c.if-n-eq0.true)
    (λ t. absurd (false≢true t), λ asks. absurd cc)
