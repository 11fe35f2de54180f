-- What a capture says: the rows or the codes of its segments, opened, all readable. Then why it says nothing.
use Rattle.std.specs.Prelude.{◌≡◌, ◌⊎◌, ℕ, List, [], Some, None, Option, Result, Ok, Err}
use Rattle.std.specs.List.{AllByRecursion, filter}
use Rattle.fints_syntax_segments.specs.declared.item.OwnedSegment.{OwnedSegment}
use Rattle.fints_params.specs.declared.both.ParamsAndCodes.{ParamsAndCodes}
use Rattle.fints_params.specs.declared.fault.ParamFault.{ParamFault}
use Rattle.fints_params.specs.declared.fault.ParamFault.TheVariants.{NoBankParameters, NoPinParameters}
use Rattle.fints_params.specs.Faults.{IsMemoryOr}
use Rattle.fints_params.specs.Feedback.{bad_code, codes_in, feedback_fault}
use Rattle.fints_params.specs.Opened.{AreSegmentsOf}
use Rattle.fints_params.specs.Parameters.{Rows, BankRows, UserRows, IsRowsOf, bank_rows, user_told, bad_element, fault_after, end_fault}
use Rattle.fints_params.specs.Pins.{is_pins}
use Rattle.fints_params.specs.Refused.{NoneRefused, IsRefusedOf}

-- the parameters of a capture: no segment has a bad element, one is HIBPA, and some is HIPINS
pub record IsParamsOf (capture : List ℕ) (rows : Rows) : Type 0 where
  pub segments : List OwnedSegment
  pub opened : AreSegmentsOf capture segments
  pub each : AllByRecursion (λ s. bad_element s ≡ None) segments
  pub has_pins : filter is_pins segments ≡ [] → ⊥
  pub rows_are : IsRowsOf segments rows

-- the codes of a message
pub record IsCodesOf (message numbers : List ℕ) : Type 0 where
  pub segments : List OwnedSegment
  pub opened : AreSegmentsOf message segments
  pub each : AllByRecursion (λ s. bad_code s ≡ None) segments
  pub numbers_are : numbers ≡ codes_in segments

-- ---- refusals

-- the first refusal of a capture: of a segment, or of what is missing at the end
abbrev pub IsParamFault : List ℕ → ParamFault → Type 0
IsParamFault capture f =
    IsRefusedOf fault_after capture f
    ⊎ ((segments : List OwnedSegment) × AreSegmentsOf capture segments × NoneRefused fault_after segments
    × (end_fault segments ≡ Some f))

-- it is refused only since a HIBPA or a HIPINS is missing
abbrev pub LacksParams : List ℕ → Type 0
LacksParams capture = IsParamFault capture NoBankParameters ⊎ IsParamFault capture NoPinParameters

-- what a capture says of the bank, where no part of that is missing
abbrev pub TellsBank : List ℕ → Option BankRows → Type 0
TellsBank capture None = LacksParams capture
TellsBank capture (Some told) = (rows : Rows) × IsParamsOf capture rows × (told ≡ bank_rows rows)

-- what it says of the user, where some segment is a HIUPA or a HIUPD
abbrev pub TellsUser : List ℕ → Option UserRows → Type 0
TellsUser capture told =
    (segments : List OwnedSegment) × AreSegmentsOf capture segments × NoneRefused fault_after segments
    × (told ≡ user_told segments)

-- what is answered where the parameters of a capture are read
abbrev pub IsReadOf : List ℕ → Result Rows ParamFault → Type 0
IsReadOf capture (Ok rows) = IsParamsOf capture rows
IsReadOf capture (Err f) = IsMemoryOr (IsParamFault capture) f

-- the first refusal of a message
abbrev pub IsCodeFault : List ℕ → ParamFault → Type 0
IsCodeFault message f = IsRefusedOf feedback_fault message f

-- the first refusal of a capture read for both: by its parameters, or where it has parameters by its codes
abbrev pub IsEitherFault : List ℕ → ParamFault → Type 0
IsEitherFault capture f =
    IsParamFault capture f ⊎ ((rows : Rows) × IsParamsOf capture rows × IsCodeFault capture f)

-- what is answered where both are read
abbrev pub IsBothReadOf : List ℕ → Result ParamsAndCodes ParamFault → Type 0
IsBothReadOf capture (Ok told) = IsParamsOf capture told.params × IsCodesOf capture told.codes.items
IsBothReadOf capture (Err f) = IsMemoryOr (IsEitherFault capture) f
