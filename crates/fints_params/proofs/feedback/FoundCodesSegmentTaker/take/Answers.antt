use Rattle.std.proofs.Common.{◌≡◌, ◌++◌, [], ◌∷◌, None, Result, Ok, Err}
use Rattle.std.specs.Prelude.{IfOk}
use Rattle.std.proofs.lemmas.Result.{IfErr-weaker}
use Rattle.fints_params.specs.Feedback.{bad_code, codes_in, feedback_fault}
use Rattle.fints_params.specs.Faults.{IsBad, IsMemoryOr}
use Rattle.fints_params.specs.Steps.{Continues, StopsIn}
use Rattle.fints_params.specs.Taken.{CodesSoFar}
use Rattle.fints_params.proofs.FoundCodes.{codes_more, codes_stop}
use Rattle.fints_params.proofs.feedback.FoundCodesSegmentTaker.take.Goals as goal

both : {T E : Type 0} {P Q R : T → Type 0} → (r : Result T E) → ((x : T) → P x → Q x → R x) → IfOk r P
    → IfOk r Q → IfOk r R
both (Ok x) f p q = f x p q
both (Err e) f p q = p

pub returns-clause-ok : goal.returns-clause-ok
returns-clause-ok c =
    let s = c.args.segment.now in
    let old = c.args.self.now.codes.items in
    let new = c.take_codes.new.codes.items in
    both {P = λ _. bad_code s ≡ None} {Q = λ _. new ≡ old ++ codes_in (s ∷ [])}
    {R = λ _. Continues CodesSoFar old new (s ∷ [])} c.take_codes.result
    (λ _ fine e. codes_more s old new fine e) c.take_codes.ensures.fine c.take_codes.ensures.codes

pub returns-clause-stopped : goal.returns-clause-stopped
returns-clause-stopped c =
    let s = c.args.segment.now in
    let old = c.args.self.now.codes.items in
    IfErr-weaker c.take_codes.result (λ f. IsBad s (bad_code s) f)
    (λ f. IsMemoryOr (StopsIn feedback_fault CodesSoFar old (s ∷ [])) f) (λ f h. codes_stop s old f h)
    c.take_codes.ensures.fault
