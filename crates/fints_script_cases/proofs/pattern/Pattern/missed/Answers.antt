use Rattle.std.proofs.Common.{◌≡◌, List, ℕ, arith, get_or, length, subst, true}
use Rattle.fints_script_cases.specs.Patterns.{fits}
use Rattle.fints_script_cases.proofs.Blocks.{fits_all}
use Rattle.fints_script_cases.proofs.pattern.Pattern.missed.Goals as goal

pub returns : goal.returns
returns c = fits_all c.args.self.now c.args.code (subst (λ (p : List ℕ). length p ≡ 4) c.self.view_is c.self.told)
    (λ k lt.
    subst (λ (ds : List ℕ). fits (get_or c.args.self.now k 0) (get_or ds k 0) ≡ true)
    c.digits_of-digits.ensures.digits
    (c.loop-place.invariant k (omega (arith, lt, c.loop-place-test.false))))
