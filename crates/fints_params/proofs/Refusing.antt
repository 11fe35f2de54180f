-- What is read so far, and where a reader stops.
use Rattle.std.proofs.Common.{◌≡◌, ℕ, ◌+◌, ◌<◌, List, [], ◌∷◌, ◌++◌, length, take, drop, get_or, refl, ap, ◌∙◌, sym, subst, arith, inl, inr, append_assoc, true, false, Some, None}
use Rattle.std.proofs.lemmas.List.{append-nil, length-append}
use Rattle.fints_syntax_segments.specs.declared.item.OwnedSegment.{OwnedSegment}
use Rattle.fints_params.specs.declared.fault.ParamFault.{ParamFault}
use Rattle.fints_syntax.specs.declared.fault.SyntaxKind.{SyntaxKind}
use Rattle.fints_syntax.specs.declared.fault.SyntaxKind.TheVariants as kinds
use Rattle.fints_syntax.specs.Capture.{CaptureFaultAt}
use Rattle.fints_params.specs.Sealed.{is_sealed, data_of}
use Rattle.fints_params.specs.Faults.{IsMemoryOr, fault_from}
use Rattle.fints_params.specs.Opened.{HasInside, OpensTo, OpenTo}
use Rattle.fints_params.specs.Refused.{Rule, NoneRefused, IsFirstRefused, StaysClosed}
use Rattle.fints_params.specs.Steps.{Continues, StopsIn, ContinuesOver, StopsAt}
use Rattle.fints_params.proofs.Lists.{split_at, next_is, push_split}

pub none_nil : (rule : Rule) → NoneRefused rule []
none_nil rule = λ before after at e. absurd (omega (arith, ap length e, length-append before (at ∷ after)))

pub none_push : (rule : Rule) (xs : List OwnedSegment) (x : OwnedSegment) → NoneRefused rule xs
    → rule xs x ≡ None → NoneRefused rule (xs ++ x ∷ [])
none_push rule xs x h n = λ before after at e.
    elim (push_split xs before after x at e) [
      | inl w ↦ ap (λ b. rule b at) w.0 ∙ ap (λ y. rule xs y) w.1 ∙ n
      | inr w ↦ h before w.0 at w.1
    ]

-- none of a front is
pub none_front : (rule : Rule) (xs ys : List OwnedSegment) → NoneRefused rule (xs ++ ys) → NoneRefused rule xs
none_front rule xs ys h = λ before after at e.
    h before (after ++ ys) at (ap (λ (zs : List OwnedSegment). zs ++ ys) e ∙ append_assoc before (at ∷ after) ys)

pub memory_or : (P Q : ParamFault → Type 0) (f : ParamFault) → ((g : ParamFault) → P g → Q g) → IsMemoryOr P f
    → IsMemoryOr Q f
memory_or P Q f k (inl e) = inl e
memory_or P Q f k (inr p) = inr (k f p)

pub continue_more : {S : Type 0} (Good : List OwnedSegment → S → Type 0) (a b c : S)
    (xs ys : List OwnedSegment) → Continues Good a b xs → Continues Good b c ys
    → Continues Good a c (xs ++ ys)
continue_more Good a b c xs ys h k = λ seen g. subst (λ (zs : List OwnedSegment). Good zs c) (append_assoc seen xs ys) (k (seen ++ xs) (h seen g))

-- a segment that is refused after those seen
pub refused_here : (rule : Rule) (seen : List OwnedSegment) (s : OwnedSegment) (f : ParamFault)
    → NoneRefused rule seen → rule seen s ≡ Some f → IsFirstRefused rule seen (s ∷ []) f
refused_here rule seen s f none e =
    record {
      before = [];
      at = s;
      after = [];
      split = refl;
      none = subst (NoneRefused rule) (sym (append-nil seen)) none;
      fault = ap (λ (zs : List OwnedSegment). rule zs s) (append-nil seen) ∙ e;
    }

pub refused_later : (rule : Rule) (seen xs segments more : List OwnedSegment) (f : ParamFault)
    → IsFirstRefused rule (seen ++ xs) segments f → IsFirstRefused rule seen (xs ++ (segments ++ more)) f
refused_later rule seen xs segments more f r =
    let e = append_assoc seen xs r.before in
    record {
      before = xs ++ r.before;
      at = r.at;
      after = r.after ++ more;
      split =
          ap (λ (ss : List OwnedSegment). xs ++ (ss ++ more)) r.split
          ∙ ap (λ (ss : List OwnedSegment). xs ++ ss) (append_assoc r.before (r.at ∷ r.after) more)
          ∙ sym (append_assoc xs r.before (r.at ∷ (r.after ++ more)));
      none = subst (NoneRefused rule) e r.none;
      fault = ap (λ (zs : List OwnedSegment). rule zs r.at) (sym e) ∙ r.fault;
    }

pub stop_later : {S : Type 0} (rule : Rule) (Good : List OwnedSegment → S → Type 0) (a b : S)
    (xs segments more : List OwnedSegment) (f : ParamFault)
    → Continues Good a b xs → StopsIn rule Good b segments f
    → StopsIn rule Good a (xs ++ (segments ++ more)) f
stop_later rule Good a b xs segments more f h s = λ seen g. refused_later rule seen xs segments more f (s (seen ++ xs) (h seen g))

-- one more segment of a list
pub continue_next : {S : Type 0} (Good : List OwnedSegment → S → Type 0) (a b c : S)
    (segments : List OwnedSegment) (i : ℕ) (s : OwnedSegment) → i < length segments → s ≡ get_or segments i s
    → Continues Good a b (take i segments) → Continues Good b c (s ∷ [])
    → Continues Good a c (take (i + 1) segments)
continue_next Good a b c segments i s lt e h k =
    subst (λ (xs : List OwnedSegment). Continues Good a c xs) (sym (next_is segments i s lt e))
    (continue_more Good a b c (take i segments) (s ∷ []) h k)

pub stop_next : {S : Type 0} (rule : Rule) (Good : List OwnedSegment → S → Type 0) (a b : S)
    (segments : List OwnedSegment) (i : ℕ) (s : OwnedSegment) (f : ParamFault) → i < length segments
    → s ≡ get_or segments i s
    → Continues Good a b (take i segments) → IsMemoryOr (StopsIn rule Good b (s ∷ [])) f
    → IsMemoryOr (StopsIn rule Good a segments) f
stop_next rule Good a b segments i s f lt e h m =
    let rest = drop (i + 1) segments in
    let split : take i segments ++ ((s ∷ []) ++ rest) ≡ segments = sym (split_at segments i s lt e) in
    memory_or (StopsIn rule Good b (s ∷ [])) (StopsIn rule Good a segments) f
    (λ g k. subst (λ (ss : List OwnedSegment). StopsIn rule Good a ss g) split (stop_later rule Good a b (take i segments) (s ∷ []) rest g h k)) m

-- ---- over segments and what they mean

pub open_more : (ss segments : List OwnedSegment) (s : OwnedSegment) (mine : List OwnedSegment)
    → OpenTo ss segments → OpensTo s mine → OpenTo (ss ++ s ∷ []) (segments ++ mine)
open_more [] segments s mine h o = (mine, [], o, refl, ap (λ (x : List OwnedSegment). x ++ mine) h ∙ sym (append-nil mine))
open_more (t ∷ ts) segments s mine (own, more, ot, rest, e) o =
    (own, more ++ mine, ot, open_more ts more s mine rest o, ap (λ (x : List OwnedSegment). x ++ mine) e ∙ append_assoc own more mine)

-- ---- a segment, and an HNVSD

pub single_ok : {S : Type 0} (Good : List OwnedSegment → S → Type 0) (a b : S) (s : OwnedSegment)
    → is_sealed s ≡ false → Continues Good a b (s ∷ []) → ContinuesOver Good a b s
single_ok Good a b s e k = (s ∷ [], inl (e, refl), k)

pub single_stop : {S : Type 0} (rule : Rule) (Good : List OwnedSegment → S → Type 0) (a : S)
    (s : OwnedSegment) (place : ℕ) (f : ParamFault)
    → is_sealed s ≡ false → IsMemoryOr (StopsIn rule Good a (s ∷ [])) f
    → IsMemoryOr (StopsAt rule Good a s place) f
single_stop rule Good a s place f e m =
    memory_or (StopsIn rule Good a (s ∷ [])) (StopsAt rule Good a s place) f (λ g k. λ seen h. inl (s ∷ [], inl (e, refl), k seen h)) m

pub opened_ok : {S : Type 0} (Good : List OwnedSegment → S → Type 0) (a b : S) (s : OwnedSegment)
    (mine : List OwnedSegment) → is_sealed s ≡ true → HasInside s mine → Continues Good a b mine
    → ContinuesOver Good a b s
opened_ok Good a b s mine e (bytes, d, r) k = (mine, inr (e, (bytes, d, r)), k)

pub opened_stop : {S : Type 0} (rule : Rule) (Good : List OwnedSegment → S → Type 0) (a : S)
    (s : OwnedSegment) (place : ℕ) (mine : List OwnedSegment) (f : ParamFault)
    → is_sealed s ≡ true → HasInside s mine → IsMemoryOr (StopsIn rule Good a mine) f
    → IsMemoryOr (StopsAt rule Good a s place) f
opened_stop rule Good a s place mine f e (bytes, d, r) m =
    memory_or (StopsIn rule Good a mine) (StopsAt rule Good a s place) f (λ g k. λ seen h. inl (mine, inr (e, (bytes, d, r)), k seen h)) m

-- data that can't be opened
pub closed_stop : {S : Type 0} (rule : Rule) (Good : List OwnedSegment → S → Type 0) (a : S)
    (s : OwnedSegment) (place : ℕ) (f : ParamFault)
    → is_sealed s ≡ true → IsMemoryOr (StaysClosed s place) f → IsMemoryOr (StopsAt rule Good a s place) f
closed_stop rule Good a s place f e m = memory_or (StaysClosed s place) (StopsAt rule Good a s place) f (λ g k. λ seen h. inr (e, k)) m

-- the fault of data, counted in the capture
pub closed_by : (s : OwnedSegment) (place : ℕ) (bytes : List ℕ) (kind : SyntaxKind) (o : ℕ)
    → data_of s ≡ Some bytes → CaptureFaultAt kind o bytes
    → IsMemoryOr (StaysClosed s place) (fault_from kind (place + o))
closed_by s place bytes kinds.Memory o e h = inl refl
closed_by s place bytes kinds.BadBinary o e h = inr (inr (bytes, record { kind = kinds.BadBinary; offset = o }, e, (h, λ q. cc), refl))
closed_by s place bytes kinds.TooLong o e h = inr (inr (bytes, record { kind = kinds.TooLong; offset = o }, e, (h, λ q. cc), refl))
closed_by s place bytes kinds.Incomplete o e h = inr (inr (bytes, record { kind = kinds.Incomplete; offset = o }, e, (h, λ q. cc), refl))
closed_by s place bytes kinds.BadHead o e h = inr (inr (bytes, record { kind = kinds.BadHead; offset = o }, e, (h, λ q. cc), refl))
closed_by s place bytes kinds.CaptureTooLong o e h = inr (inr (bytes, record { kind = kinds.CaptureTooLong; offset = o }, e, (h, λ q. cc), refl))
closed_by s place bytes kinds.Failed o e h = inr (inr (bytes, record { kind = kinds.Failed; offset = o }, e, (h, λ q. cc), refl))
