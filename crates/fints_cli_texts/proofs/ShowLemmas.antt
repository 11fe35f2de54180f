-- What is read of a capture that is shown, and its refusals.
use Rattle.std.proofs.Common.{ℕ, List, inl, inr, IfOk, IfErr, Result, Ok, Err}
use Rattle.fints_params.specs.declared.both.ParamsAndCodes.{ParamsAndCodes}
use Rattle.fints_params.specs.declared.fault.ParamFault.{ParamFault}
use Rattle.fints_params.specs.declared.fault.ParamFault.TheVariants as params
use Rattle.fints_params.specs.Faults.{IsMemoryOr}
use Rattle.fints_params.specs.Captures.{IsBothReadOf, IsCodesOf, IsEitherFault, IsParamsOf}
use Rattle.fints_cli_texts.specs.Fault.{fault_of}
use Rattle.fints_cli_texts.specs.Show.{IsMemoryOrShowFault}

pub kept : (capture : List ℕ) (f : ParamFault) → IsMemoryOr (IsEitherFault capture) f
    → IsMemoryOrShowFault capture (fault_of f)
kept capture params.Memory h = tt
kept capture (params.Syntax s) (inl e) = absurd (cc)
kept capture (params.Syntax s) (inr p) = p
kept capture (params.BadElement s e) (inl q) = absurd (cc)
kept capture (params.BadElement s e) (inr p) = p
kept capture params.TwoBankParameters (inl e) = absurd (cc)
kept capture params.TwoBankParameters (inr p) = p
kept capture params.NoBankParameters (inl e) = absurd (cc)
kept capture params.NoBankParameters (inr p) = p
kept capture params.NoPinParameters (inl e) = absurd (cc)
kept capture params.NoPinParameters (inr p) = p

pub both_read : (capture : List ℕ) (r : Result ParamsAndCodes ParamFault)
    → IfOk r (λ it. IsParamsOf capture it.params) → IfOk r (λ it. IsCodesOf capture it.codes.items)
    → IfErr r (IsMemoryOr (IsEitherFault capture)) → IsBothReadOf capture r
both_read capture (Ok it) params codes refused = (params, codes)
both_read capture (Err f) params codes refused = refused
