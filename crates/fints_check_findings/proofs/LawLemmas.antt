-- The laws, each with its proof, for the proofs of the crates above.
use Rattle.fints_check_findings.specs.Laws.{HeldIsUnreleased, ReleaseIsLeft, UnreleasedIsReal, UnreleasedIsShown}
use Rattle.fints_check_findings.specs.StepFacts.{TemplatesDecide}
use Rattle.fints_check_findings.proofs.Deciding.{decides}
use Rattle.fints_check_findings.proofs.Leaving.{release_left, held_both, unreleased_real, unreleased_shown}
use Rattle.fints_script.proofs.LawLemmas.{closed_segments}

pub templates_decide : TemplatesDecide
templates_decide = decides

pub release_is_left : ReleaseIsLeft
release_is_left granted script f sound = release_left granted script sound f

pub held_is_unreleased : HeldIsUnreleased
held_is_unreleased script orders t s sound closed =
    held_both script orders
    (λ n step at i template there. closed_segments script orders closed n i step template at there) t s

pub unreleased_is_real : UnreleasedIsReal
unreleased_is_real granted script v s sound closed =
    unreleased_real granted script sound
    (λ n step at i template there. closed_segments script granted.orders closed n i step template at there)
    v s

pub unreleased_is_shown : UnreleasedIsShown
unreleased_is_shown granted script t s values answers sound closed =
    unreleased_shown granted script sound
    (λ n step at i template there. closed_segments script granted.orders closed n i step template at there)
    t s values answers
