-- Each capture has rows or is refused, and each message has codes or is refused.
use Rattle.std.proofs.Common.{◌≡◌, ◌⊎◌, ℕ, ◌+◌, Bool, true, false, if◌then◌else◌, List, [], ◌∷◌, ◌++◌, map, refl, ap, ◌∙◌, sym, subst, inl, inr, append_assoc, Option, Some, None}
use Rattle.std.specs.List.{filter, filter_map, flat_map}
use Rattle.std.proofs.lemmas.Bool.{cases_Bool}
use Rattle.std.proofs.lemmas.List.{append-nil}
use Rattle.std.proofs.lemmas.List.Elements.{filter-append}
use Rattle.fints_syntax.specs.Owned.{segment_of}
use Rattle.fints_syntax.specs.Streams.{data_place}
use Rattle.fints_syntax.specs.declared.capture.Placed.{Placed}
use Rattle.fints_syntax.proofs.OneAnswer.{capture_or_fault}
use Rattle.fints_syntax_segments.specs.declared.item.OwnedSegment.{OwnedSegment}
use Rattle.fints_params.specs.declared.fault.ParamFault.{ParamFault}
use Rattle.fints_params.specs.declared.fault.ParamFault.TheVariants.{Syntax, BadElement, TwoBankParameters, NoBankParameters, NoPinParameters}
use Rattle.fints_params.specs.Reading.{is_empty}
use Rattle.fints_params.specs.Bank.{is_bank, bank_row}
use Rattle.fints_params.specs.Orders.{order_in}
use Rattle.fints_params.specs.Pins.{is_pins, pin_rows}
use Rattle.fints_params.specs.Tans.{tan_in}
use Rattle.fints_params.specs.Accounts.{is_account, account_row}
use Rattle.fints_params.specs.Sealed.{is_sealed, data_of}
use Rattle.fints_params.specs.Opened.{OpensTo, OpenTo, AreSegmentsOf}
use Rattle.fints_params.specs.Refused.{Rule, NoneRefused, IsFirstRefused, IsRefusedAt, IsRefusedIn, IsRefusedOf, values_in}
use Rattle.fints_params.specs.Parameters.{Rows, read_each, usage_in, skipped_in, fault_after, end_fault}
use Rattle.fints_params.specs.Feedback.{codes_in, feedback_fault}
use Rattle.fints_params.specs.Laws.{ParamsOrFault, CodesOrFault}
use Rattle.fints_params.proofs.Fine.{each_bad_element, each_bad_code, some_pins}
use Rattle.fints_params.proofs.Refusing.{none_nil, none_push}
use Rattle.fints_params.proofs.Viewed.{open_view}

some_or_none : {A : Type 0} (o : Option A) → (o ≡ None) ⊎ ((x : A) × (o ≡ Some x))
some_or_none None = inl refl
some_or_none (Some x) = inr (x, refl)

-- ---- segments that are all accepted, or the first that is refused

pushed : (rule : Rule) (seen : List OwnedSegment) (s : OwnedSegment) (ss : List OwnedSegment) (f : ParamFault)
    → IsFirstRefused rule (seen ++ s ∷ []) ss f → IsFirstRefused rule seen (s ∷ ss) f
pushed rule seen s ss f r =
    let e = append_assoc seen (s ∷ []) r.before in
    record {
      before = s ∷ r.before;
      at = r.at;
      after = r.after;
      split = ap (λ (xs : List OwnedSegment). s ∷ xs) r.split;
      none = subst (NoneRefused rule) e r.none;
      fault = ap (λ (xs : List OwnedSegment). rule xs r.at) (sym e) ∙ r.fault;
    }

among : (rule : Rule) (seen mine : List OwnedSegment) → NoneRefused rule seen
    → NoneRefused rule (seen ++ mine) ⊎ ((f : ParamFault) × IsFirstRefused rule seen mine f)
among rule seen [] none = inl (subst (NoneRefused rule) (sym (append-nil seen)) none)
among rule seen (s ∷ ss) none =
    elim (some_or_none (rule seen s)) [
      | inl e ↦ elim (among rule (seen ++ s ∷ []) ss (none_push rule seen s none e)) [
        | inl h ↦ inl (subst (NoneRefused rule) (append_assoc seen (s ∷ []) ss) h)
        | inr r ↦ inr (r.0, pushed rule seen s ss r.0 r.1)
      ]
      | inr f ↦ inr (
        f.0,
        record {
          before = [];
          at = s;
          after = ss;
          split = refl;
          none = subst (NoneRefused rule) (sym (append-nil seen)) none;
          fault = ap (λ (xs : List OwnedSegment). rule xs s) (append-nil seen) ∙ f.1;
        },
      )
    ]

-- a segment opens to such ones, or it is refused
abbrev Opens : Rule → List OwnedSegment → OwnedSegment → ℕ → Type 0
Opens rule seen s place = ((mine : List OwnedSegment) × OpensTo s mine × NoneRefused rule (seen ++ mine)) ⊎ ((f : ParamFault) × IsRefusedAt rule seen s place f)

opens_among : (rule : Rule) (seen : List OwnedSegment) (s : OwnedSegment) (place : ℕ)
    (mine : List OwnedSegment) → NoneRefused rule seen → OpensTo s mine → Opens rule seen s place
opens_among rule seen s place mine none o =
    elim (among rule seen mine none) [
      | inl h ↦ inl (mine, o, h)
      | inr r ↦ inr (r.0, inl (mine, o, r.1))
    ]

opens_data : (rule : Rule) (seen : List OwnedSegment) (s : OwnedSegment) (place : ℕ) (bytes : List ℕ)
    → NoneRefused rule seen → is_sealed s ≡ true → data_of s ≡ Some bytes → Opens rule seen s place
opens_data rule seen s place bytes none e d =
    elim (capture_or_fault bytes) [
      | inl h ↦ opens_among rule seen s place (values_in h.1) none (inr (e, (bytes, d, (map (λ p. p.segment) h.1, (h.1, h.2, refl), refl))))
      | inr h ↦ inr (Syntax (record { kind = h.0.kind; offset = place + h.0.offset }), inr (e, inr (bytes, h.0, d, (h.1, h.2), refl)))
    ]

opens : (rule : Rule) (seen : List OwnedSegment) (s : OwnedSegment) (place : ℕ) → NoneRefused rule seen
    → Opens rule seen s place
opens rule seen s place none =
    elim (cases_Bool (is_sealed s)) [
      | inl e ↦ elim (some_or_none (data_of s)) [
        | inl d ↦ inr (BadElement s.head.number 2, inr (e, inl (d, refl)))
        | inr d ↦ opens_data rule seen s place d.0 none e d.1
      ]
      | inr e ↦ opens_among rule seen s place (s ∷ []) none (inl (e, refl))
    ]

abbrev Reads : Rule → List Placed → Type 0
Reads rule placed =
    ((segments : List OwnedSegment) × OpenTo (values_in placed) segments × NoneRefused rule segments)
    ⊎ ((f : ParamFault) × IsRefusedIn rule placed f)

reads : (rule : Rule) (front placed : List Placed) (seen : List OwnedSegment) → OpenTo (values_in front) seen
    → NoneRefused rule seen → Reads rule (front ++ placed)
reads rule front [] seen o none = inl (seen, subst (λ (ps : List Placed). OpenTo (values_in ps) seen) (sym (append-nil front)) o, none)
reads rule front (p ∷ ps) seen o none =
    elim (opens rule seen (segment_of p.segment) (data_place p) none) [
      | inl h ↦ subst (Reads rule) (append_assoc front (p ∷ []) ps) (reads rule (front ++ p ∷ []) ps (seen ++ h.0) (open_view front seen p h.0 o h.1) h.2)
      | inr r ↦ inr (r.0, record { front = front; at = p; back = ps; split = refl; seen = seen; opened = o; none = none; refused = r.1 })
    ]

accepted_or_refused : (rule : Rule) (capture : List ℕ)
    → ((segments : List OwnedSegment) × AreSegmentsOf capture segments × NoneRefused rule segments)
    ⊎ ((f : ParamFault) × IsRefusedOf rule capture f)
accepted_or_refused rule capture =
    elim (capture_or_fault capture) [
      | inl h ↦ elim (reads rule [] h.1 [] refl (none_nil rule)) [
        | inl r ↦ inl (r.0, record { short = h.0; outer = values_in h.1; reads = (map (λ p. p.segment) h.1, (h.1, h.2, refl), refl); opened = r.1 }, r.2)
        | inr r ↦ inr (r.0, inr (h.0, h.1, h.2, r.1))
      ]
      | inr h ↦ inr (Syntax h.0, inl (h.0, (h.1, h.2), refl))
    ]

-- ---- the codes

pub codes_or_fault : CodesOrFault
codes_or_fault = λ message. elim (accepted_or_refused feedback_fault message) [
  | inl r ↦ inl (codes_in r.0, record { segments = r.0; opened = r.1; each = each_bad_code r.0 r.2; numbers_are = refl })
  | inr r ↦ inr r
]

-- ---- the rows

longer : {A : Type 0} (xs ys : List A) → is_empty xs ≡ false → is_empty (xs ++ ys) ≡ false
longer [] ys e = absurd cc
longer (x ∷ xs) ys e = refl

ends_some : (xs : List OwnedSegment) (s : OwnedSegment) → is_bank s ≡ true
    → is_empty (xs ++ filter is_bank (s ∷ [])) ≡ false
ends_some [] s e = rw e refl
ends_some (x ∷ xs) s e = refl

has_bank : (banks pins : Bool)
    → (if banks then Some NoBankParameters else (if pins then Some NoPinParameters else None)) ≡ None
    → banks ≡ false
has_bank true pins e = absurd cc
has_bank false pins e = refl

second : (b : Bool) (before : List OwnedSegment) (s : OwnedSegment) → is_bank s ≡ b
    → is_empty (filter is_bank before) ≡ false → fault_after before s ≡ None → b ≡ false
second false before s e some none = refl
second true before s e some none = let clash : Some TwoBankParameters ≡ None = rw (e, some) at none in cc

some_still : (before : List OwnedSegment) (s : OwnedSegment) → is_empty (filter is_bank before) ≡ false
    → is_empty (filter is_bank (before ++ s ∷ [])) ≡ false
some_still before s some = ap is_empty (filter-append is_bank before (s ∷ [])) ∙ longer (filter is_bank before) (filter is_bank (s ∷ [])) some

-- after a bank there is none
none_behind : (before ss : List OwnedSegment) → NoneRefused fault_after (before ++ ss)
    → is_empty (filter is_bank before) ≡ false → filter is_bank ss ≡ []
none_behind before [] none some = refl
none_behind before (s ∷ ss) none some =
    let no = second (is_bank s) before s refl some (none before ss s refl) in
    rw no (none_behind (before ++ s ∷ []) ss (subst (NoneRefused fault_after) (sym (append_assoc before (s ∷ []) ss)) none) (some_still before s some))

one_bank : (before ss : List OwnedSegment) → NoneRefused fault_after (before ++ ss)
    → is_empty (filter is_bank ss) ≡ false → (s : OwnedSegment) × (filter is_bank ss ≡ s ∷ [])
one_bank before [] none some = absurd cc
one_bank before (s ∷ ss) none some =
    let later = subst (NoneRefused fault_after) (sym (append_assoc before (s ∷ []) ss)) none in
    elim (cases_Bool (is_bank s)) [
      | inl e ↦ (
        s,
        rw e
            (ap (λ (xs : List OwnedSegment). s ∷ xs)
            (none_behind (before ++ s ∷ []) ss later
            (ap is_empty (filter-append is_bank before (s ∷ []))
            ∙ ends_some (filter is_bank before) s e))),
      )
      | inr e ↦ let r = one_bank (before ++ s ∷ []) ss later (rw e at some) in (r.0, rw e r.1)
    ]

pub params_or_fault : ParamsOrFault
params_or_fault = λ capture. elim (accepted_or_refused fault_after capture) [
  | inl r ↦ elim (some_or_none (end_fault r.0)) [
    | inl e ↦ let bank = one_bank [] r.0 r.2 (has_bank (is_empty (filter is_bank r.0)) (is_empty (filter is_pins r.0)) e) in
        let rows : Rows =
        record {
          bank = bank_row bank.0;
          orders = filter_map order_in r.0;
          pins = flat_map pin_rows (filter is_pins r.0);
          tans = filter_map tan_in r.0;
          usage = usage_in r.0;
          accounts = read_each is_account account_row r.0;
          skipped = skipped_in r.0;
        } in
        inl (
          rows,
          record {
            segments = r.0;
            opened = r.1;
            each = each_bad_element r.0 r.2;
            has_pins = some_pins r.0 e;
            rows_are =
                record {
                  bank =
                      ap (λ (ss : List OwnedSegment). map bank_row ss) bank.1;
                  orders = refl;
                  pins = refl;
                  tans = refl;
                  usage = refl;
                  accounts = refl;
                  skipped = refl;
                };
          },
        )
    | inr f ↦ inr (f.0, inr (r.0, r.1, r.2, f.1))
  ]
  | inr r ↦ inr (r.0, inl r.1)
]
