use Rattle.std.proofs.Common.{ℕ}
use Rattle.fints_check_findings.proofs.LawLemmas.{held_is_unreleased}
use Rattle.fints_script.proofs.LawLemmas.{sound_of}
use Rattle.fints_check_findings.proofs.releasing.is_released_step.Goals as goal

pub returns : goal.returns
returns c =
    let script = c.args.at.plan.now.script in
    let same = λ (s : ℕ). held_is_unreleased script c.args.at.plan.now.orders c.args.at.n s (sound_of c.is_never_held.ensures.read) c.is_never_held.ensures.closed in (
      λ t s u. c.is_never_held.ensures.none.0 t s ((same s).1 u),
      λ none. c.is_never_held.ensures.none.1 (λ s h. none s ((same s).0 h)),
    )
