-- Rows and codes of the same segments.
use Rattle.std.proofs.Common.{◌≡◌, ◌≢◌, ◌⊎◌, ℕ, List, [], ◌∷◌, ◌++◌, ap, ◌∙◌, sym, subst, inl, inr, refl, Option, Some, None, Result, Ok, Err, IfOk, IfErr, Bool, true, false, if◌then◌else◌}
use Rattle.std.specs.List.{filter}
use Rattle.std.specs.Option.{is_some}
use Rattle.std.specs.Result.{result_ok}
use Rattle.fints_syntax.specs.Owned.{segments_of}
use Rattle.fints_syntax_segments.specs.declared.item.OwnedSegment.{OwnedSegment}
use Rattle.fints_params.specs.declared.fault.ParamFault.{ParamFault}
use Rattle.fints_params.specs.declared.fault.ParamFault.TheVariants.{Memory, NoBankParameters, NoPinParameters}
use Rattle.fints_params.specs.declared.gathered.Gathered.{Gathered}
use Rattle.fints_params.specs.Captures.{IsParamsOf, IsParamFault, IsCodesOf, IsCodeFault, LacksParams, TellsBank}
use Rattle.fints_params.specs.Faults.{IsMemoryOr}
use Rattle.fints_params.specs.Feedback.{is_feedback, feedback_fault}
use Rattle.fints_params.specs.Glancing.{IsGlanced}
use Rattle.fints_params.specs.declared.both.Both.{Both}
use Rattle.fints_params.specs.Opened.{OpenTo, AreSegmentsOf}
use Rattle.fints_params.specs.Parameters.{Rows, BankRows, IsRowsOf, end_fault, joined, user_in}
use Rattle.fints_params.specs.Bank.{is_bank}
use Rattle.fints_params.specs.Pins.{is_pins}
use Rattle.fints_params.specs.Reading.{is_empty}
use Rattle.fints_params.specs.Refused.{IsFirstRefused, values_in}
use Rattle.fints_params.specs.Steps.{StopsIn}
use Rattle.fints_params.specs.Taken.{IsGathered, IsBothSoFar, ParamsSoFar, CodesSoFar, CodesRead}
use Rattle.fints_params.proofs.Fine.{each_bad_element, each_bad_code, some_pins}
use Rattle.fints_params.proofs.FoundCodes.{codes_unread}
use Rattle.fints_params.proofs.Refusing.{refused_later}
use Rattle.fints_params.proofs.Viewed.{refused_among}

pub codes_kept : (refused : Option ParamFault) (numbers : List ℕ) (s : OwnedSegment) → is_some refused ≡ true
    → (seen : List OwnedSegment) → CodesRead seen refused numbers → CodesRead (seen ++ s ∷ []) refused numbers
codes_kept None numbers s e = absurd cc
codes_kept (Some f) numbers s e = λ seen h. refused_later feedback_fault [] [] seen (s ∷ []) f h

pub codes_refused : (refused : Option ParamFault) (old new : List ℕ) (s : OwnedSegment) (f : ParamFault)
    → is_some refused ≡ false → f ≢ Memory → IsMemoryOr (StopsIn feedback_fault CodesSoFar old (s ∷ [])) f
    → (seen : List OwnedSegment) → CodesRead seen refused old → CodesRead (seen ++ s ∷ []) (Some f) new
codes_refused (Some g) old new s f e n m = absurd cc
codes_refused None old new s f e n (inl m) = absurd (n m)
codes_refused None old new s f e n (inr k) = λ seen h. refused_later feedback_fault [] seen (s ∷ []) [] f (k seen h)

-- both, at a glance
codes_past : (refused : Option ParamFault) (numbers : List ℕ) (s : OwnedSegment) → is_feedback s ≡ false
    → (seen : List OwnedSegment) → CodesRead seen refused numbers → CodesRead (seen ++ s ∷ []) refused numbers
codes_past None numbers s other = codes_unread s numbers other
codes_past (Some f) numbers s other = codes_kept (Some f) numbers s refl

pub both_glanced : (s : OwnedSegment) (old : Both) (rows : Gathered) (taken : Bool) → is_feedback s ≡ false
    → IsGlanced ParamsSoFar old.rows rows s taken → IsGlanced IsBothSoFar old (record old { rows = rows }) s taken
both_glanced s old rows true other h =
    (h.0, λ seen g. (h.1 seen g.0, codes_past old.refused old.found.codes.items s other seen g.1))
both_glanced s old rows false other h =
    let with_rows : Gathered → Both = λ r. record old { rows = r } in
    ap with_rows h

-- ---- at the end

pub code_fault : (capture : List ℕ) (segments : List OwnedSegment) (refused : Option ParamFault)
    (numbers : List ℕ) (f : ParamFault) → refused ≡ Some f → AreSegmentsOf capture segments
    → CodesRead segments refused numbers → IsCodeFault capture f
code_fault capture segments None numbers f e o h = absurd cc
code_fault capture segments (Some g) numbers f e o h =
    let same : g ≡ f = cc in
    let (trees, (placed, v, at), is) = o.reads in
    let all : OpenTo (values_in placed) segments = subst (λ (ss : List OwnedSegment). OpenTo ss segments) (is ∙ ap segments_of (sym at)) o.opened in
    let first = subst (λ (x : ParamFault). IsFirstRefused feedback_fault [] segments x) same h in
    inr (o.short, placed, v, refused_among feedback_fault [] placed [] segments f refl all first)

pub params_of : (capture : List ℕ) (segments : List OwnedSegment) (g : Gathered) (rows : Rows)
    → AreSegmentsOf capture segments → ParamsSoFar segments g → end_fault segments ≡ None
    → IsRowsOf segments rows → IsParamsOf capture rows
params_of capture segments g rows o h complete are =
    record { segments = segments; opened = o; each = each_bad_element segments h.none; has_pins = some_pins segments complete; rows_are = are }

pub missing : (capture : List ℕ) (segments : List OwnedSegment) (g : Gathered) (f : ParamFault)
    → AreSegmentsOf capture segments → ParamsSoFar segments g → end_fault segments ≡ Some f
    → IsParamFault capture f
missing capture segments g f o h e = inr (segments, o, h.none, e)

pub codes_are : (message : List ℕ) (segments : List OwnedSegment) (numbers : List ℕ)
    → AreSegmentsOf message segments → CodesSoFar segments numbers → IsCodesOf message numbers
codes_are message segments numbers o h = record { segments = segments; opened = o; each = each_bad_code segments h.none; numbers_are = h.numbers_are }

pub params_read : (capture : List ℕ) (segments : List OwnedSegment) (g : Gathered)
    (r : Result Rows ParamFault) → AreSegmentsOf capture segments → ParamsSoFar segments g
    → IfOk r (λ p. (ss : List OwnedSegment) → IsGathered ss g → end_fault ss ≡ None)
    → IfOk r (λ p. (ss : List OwnedSegment) → IsGathered ss g → IsRowsOf ss p)
    → IfOk r (λ p. IsParamsOf capture p)
params_read capture segments g (Ok rows) o h complete are = params_of capture segments g rows o h (complete segments h.rows) (are segments h.rows)
params_read capture segments g (Err f) o h complete are = complete

pub codes_ended : (segments : List OwnedSegment) (refused : Option ParamFault) (numbers : List ℕ)
    → ((f : ParamFault) → refused ≡ Some f → ⊥) → CodesRead segments refused numbers
    → CodesSoFar segments numbers
codes_ended segments None numbers n h = h
codes_ended segments (Some f) numbers n h = absurd (n f refl)

-- ---- by parts

same_some : {A : Type 0} (x y : A) → Some x ≡ Some y → x ≡ y
same_some x y e = cc

ends : (bank pins : Bool) (f : ParamFault)
    → (if bank then Some NoBankParameters else (if pins then Some NoPinParameters else None)) ≡ Some f
    → (f ≡ NoBankParameters) ⊎ (f ≡ NoPinParameters)
ends true pins f e = inl (sym (same_some _ _ e))
ends false true f e = inr (sym (same_some _ _ e))
ends false false f e = absurd cc

lacking : (segments : List OwnedSegment) (f : ParamFault) → end_fault segments ≡ Some f
    → (f ≡ NoBankParameters) ⊎ (f ≡ NoPinParameters)
lacking segments f e = ends (is_empty (filter is_bank segments)) (is_empty (filter is_pins segments)) f e

lacks : (capture : List ℕ) (segments : List OwnedSegment) (g : Gathered) (f : ParamFault)
    → AreSegmentsOf capture segments → ParamsSoFar segments g → end_fault segments ≡ Some f
    → LacksParams capture
lacks capture segments g f o h e =
    let fault = missing capture segments g f o h e in
    elim (lacking segments f e) [
      | inl is ↦ inl (subst (IsParamFault capture) is fault)
      | inr is ↦ inr (subst (IsParamFault capture) is fault)
    ]

pub bank_told : (capture : List ℕ) (segments : List OwnedSegment) (g : Gathered)
    (r : Result BankRows ParamFault) → AreSegmentsOf capture segments → ParamsSoFar segments g
    → IfOk r (λ b. (ss : List OwnedSegment) → IsGathered ss g → end_fault ss ≡ None)
    → IfOk r (λ b. (ss : List OwnedSegment) → IsGathered ss g → IsRowsOf ss (joined b (user_in ss)))
    → IfErr r (λ f. (ss : List OwnedSegment) → IsGathered ss g → end_fault ss ≡ Some f)
    → TellsBank capture (result_ok r)
bank_told capture segments g (Ok b) o h complete are lacking =
    (joined b (user_in segments), params_of capture segments g _ o h (complete segments h.rows) (are segments h.rows), refl)
bank_told capture segments g (Err f) o h complete are lacking = lacks capture segments g f o h (lacking segments h.rows)
