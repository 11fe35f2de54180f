-- Segments that can be read each, and none of them is refused after those before it.
use Rattle.std.proofs.Common.{◌≡◌, ◌+◌, ◌≤◌, Bool, true, false, ◌&&◌, not, if◌then◌else◌, List, [], ◌∷◌, ◌++◌, length, refl, ap, ◌∙◌, sym, subst, arith, append_assoc, Option, Some, None}
use Rattle.std.specs.List.{AllByRecursion, filter}
use Rattle.std.specs.Option.{option_map}
use Rattle.std.proofs.lemmas.List.{length-append, length-map}
use Rattle.std.proofs.lemmas.List.Elements.{filter-append}
use Rattle.fints_syntax_segments.specs.declared.item.OwnedSegment.{OwnedSegment}
use Rattle.fints_params.specs.declared.fault.ParamFault.{ParamFault}
use Rattle.fints_params.specs.declared.fault.ParamFault.TheVariants.{BadElement, TwoBankParameters, NoBankParameters, NoPinParameters}
use Rattle.fints_params.specs.declared.rows.BankRow.{BankRow}
use Rattle.fints_params.specs.Reading.{is_empty}
use Rattle.fints_params.specs.Bank.{is_bank, bank_row}
use Rattle.fints_params.specs.Pins.{is_pins}
use Rattle.fints_params.specs.Feedback.{bad_code, feedback_fault}
use Rattle.fints_params.specs.Parameters.{read_each, bad_element, fault_after, end_fault}
use Rattle.fints_params.specs.Refused.{Rule, NoneRefused}

-- ---- each can be read where none is refused

each_of : (P : OwnedSegment → Type 0) (rule : Rule)
    → ((before : List OwnedSegment) (s : OwnedSegment) → rule before s ≡ None → P s)
    → (before ss : List OwnedSegment) → NoneRefused rule (before ++ ss) → AllByRecursion P ss
each_of P rule one before [] none = tt
each_of P rule one before (s ∷ ss) none =
    (one before s (none before ss s refl), each_of P rule one (before ++ s ∷ []) ss (subst (NoneRefused rule) (sym (append_assoc before (s ∷ []) ss)) none))

unmapped : {A B : Type 0} (f : A → B) (o : Option A) → option_map f o ≡ None → o ≡ None
unmapped f None e = refl
unmapped f (Some x) e = absurd cc

own_of : (b : Bool) (o : Option ParamFault) → (if b then Some TwoBankParameters else o) ≡ None → o ≡ None
own_of true o e = absurd cc
own_of false o e = e

pub each_bad_element : (segments : List OwnedSegment) → NoneRefused fault_after segments
    → AllByRecursion (λ s. bad_element s ≡ None) segments
each_bad_element segments none =
    each_of (λ s. bad_element s ≡ None) fault_after
    (λ before s e.
    unmapped (λ n. BadElement s.head.number n) (bad_element s)
    (own_of (is_bank s && not (is_empty (filter is_bank before)))
    (option_map (λ n. BadElement s.head.number n) (bad_element s)) e))
    [] segments none

pub each_bad_code : (segments : List OwnedSegment) → NoneRefused feedback_fault segments
    → AllByRecursion (λ s. bad_code s ≡ None) segments
each_bad_code segments none =
    each_of (λ s. bad_code s ≡ None) feedback_fault
    (λ before s e. unmapped (λ n. BadElement s.head.number n) (bad_code s) e) [] segments none

no_end : (bank pins : Bool) → pins ≡ true
    → (if bank then Some NoBankParameters else (if pins then Some NoPinParameters else None)) ≡ None → ⊥
no_end true pins e h = cc
no_end false true e h = cc
no_end false false e h = cc

pub some_pins : (segments : List OwnedSegment) → end_fault segments ≡ None → filter is_pins segments ≡ [] → ⊥
some_pins segments e none = no_end (is_empty (filter is_bank segments)) (is_empty (filter is_pins segments)) (ap is_empty none) e

-- ---- none is refused where each can be read

each_at : (P : OwnedSegment → Type 0) (before after : List OwnedSegment) (at : OwnedSegment)
    → AllByRecursion P (before ++ at ∷ after) → P at
each_at P [] after at h = h.0
each_at P (b ∷ bs) after at h = each_at P bs after at h.1

pub none_of_codes : (segments : List OwnedSegment) → AllByRecursion (λ s. bad_code s ≡ None) segments
    → NoneRefused feedback_fault segments
none_of_codes segments each = λ before after at e.
    let fine : bad_code at ≡ None = each_at (λ s. bad_code s ≡ None) before after at (subst (AllByRecursion (λ s. bad_code s ≡ None)) e each) in
    rw fine refl

no_two : (b : Bool) (before after : List OwnedSegment) (at : OwnedSegment) → is_bank at ≡ b
    → length before + length (filter is_bank (at ∷ after)) ≤ 1 → (b && not (is_empty before)) ≡ false
no_two false before after at e le = refl
no_two true [] after at e le = refl
no_two true (x ∷ xs) after at e le = let k = rw e at le in absurd (omega (arith, k))

-- no bank comes before a bank, where there is one in all
one_bank : (segments before after : List OwnedSegment) (at : OwnedSegment) (bank : BankRow)
    → read_each is_bank bank_row segments ≡ bank ∷ [] → segments ≡ before ++ at ∷ after
    → (is_bank at && not (is_empty (filter is_bank before))) ≡ false
one_bank segments before after at bank one e =
    let all : filter is_bank segments ≡ filter is_bank before ++ filter is_bank (at ∷ after) =
    ap (filter is_bank) e ∙ filter-append is_bank before (at ∷ after) in
    no_two (is_bank at) (filter is_bank before) after at refl
    (omega (
      arith,
      ap length one,
      length-map (filter is_bank segments) bank_row,
      ap length all,
      length-append (filter is_bank before) (filter is_bank (at ∷ after)),
    ))

pub none_of_rows : (segments : List OwnedSegment) (bank : BankRow)
    → AllByRecursion (λ s. bad_element s ≡ None) segments → read_each is_bank bank_row segments ≡ bank ∷ []
    → NoneRefused fault_after segments
none_of_rows segments bank each one = λ before after at e.
    let fine : bad_element at ≡ None = each_at (λ s. bad_element s ≡ None) before after at (subst (AllByRecursion (λ s. bad_element s ≡ None)) e each) in
    let first = one_bank segments before after at bank one e in
    rw (first, fine) refl

ended : (banks pins : List OwnedSegment) → length banks ≡ 1 → (pins ≡ [] → ⊥)
    → (if is_empty banks then Some NoBankParameters else
    (if is_empty pins then Some NoPinParameters else None))
    ≡ None
ended [] pins one some = absurd (omega (arith, one))
ended (b ∷ bs) [] one some = absurd (some refl)
ended (b ∷ bs) (p ∷ ps) one some = refl

pub complete_of : (segments : List OwnedSegment) (bank : BankRow)
    → read_each is_bank bank_row segments ≡ bank ∷ [] → (filter is_pins segments ≡ [] → ⊥)
    → end_fault segments ≡ None
complete_of segments bank one pins =
    ended (filter is_bank segments) (filter is_pins segments)
    (omega (arith, ap length one, length-map (filter is_bank segments) bank_row)) pins
