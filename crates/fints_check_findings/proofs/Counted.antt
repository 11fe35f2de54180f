-- Kinds: how many templates have one, and how many different ones there are.
use Rattle.std.proofs.Common.{ℕ, ◌+◌, ◌<◌, ◌≡◌, Bool, true, false, cond, List, [], ◌∷◌, length, get_or, map, take, drop, refl, ap, sym, subst, ◌∙◌, arith, inl, inr}
use Rattle.std.specs.Prelude.{filter, not, ◌&&◌, ◌||◌}
use Rattle.std.specs.List.{list_any}
use Rattle.std.specs.Set.{distinct_count, is_member, unique_keys}
use Rattle.std.specs.Str.{bytes_eq}
use Rattle.std.proofs.lemmas.Bool.{cases_Bool}
use Rattle.std.proofs.lemmas.Bool.Decides.{same_from_decides}
use Rattle.std.proofs.lemmas.List.{drop_more}
use Rattle.std.proofs.lemmas.List.Sums.{count_by_more_no, count_by_more_yes, sum_by-cons}
use Rattle.std.proofs.lemmas.Map.Views.{any-filter_same}
use Rattle.std.proofs.lemmas.Slice.Eq.{bytes_eq-Decides}
use Rattle.fints_syntax_segments.specs.declared.item.OwnedSegment.{OwnedSegment}
use Rattle.fints_params.specs.declared.rows.PinRow.{PinRow}
use Rattle.fints_rules.specs.Facts.{count_of, demanding_of, plain_kinds}
use Rattle.fints_rules_permissions.specs.Kinds.{is_plain_order, is_tan_order}
use Rattle.fints_rules_permissions.specs.Permits.{is_demanding}
use Rattle.fints_script_templates.specs.declared.template.Template.{Template}
use Rattle.fints_wire.specs.Filling.{FillingValue, filled_segment, filled_segments}
use Rattle.fints_check_findings.specs.Kinds.{demanding_count, has_kind, is_last_of_kind, is_tan_segment, template_count, template_kinds}

-- ---- templates and their segments

kinds_are : (F : FillingValue) (n : ℕ) (ts : List Template)
    → map (λ (s : OwnedSegment). s.head.id) (filled_segments F n ts) ≡ map (λ (t : Template). t.kind) ts
kinds_are F n [] = refl
kinds_are F n (t ∷ ts) = ap (λ (ks : List (List ℕ)). t.kind ∷ ks) (kinds_are F (n + 1) ts)

pub plain_kinds_are : (F : FillingValue) (n : ℕ) (ts : List Template)
    → plain_kinds (filled_segments F n ts) ≡ template_kinds ts
plain_kinds_are F n ts = ap (filter is_plain_order) (kinds_are F n ts)

pub count_is : (kind : List ℕ) (F : FillingValue) (n : ℕ) (ts : List Template)
    → count_of kind (filled_segments F n ts) ≡ template_count kind ts
count_is kind F n [] = refl
count_is kind F n (t ∷ ts) =
    sum_by-cons (λ (x : OwnedSegment). cond (bytes_eq x.head.id kind) 1 0) (filled_segment F n t) (filled_segments F (n + 1) ts)
    ∙ (ap (λ (m : ℕ). cond (bytes_eq t.kind kind) 1 0 + m) (count_is kind F (n + 1) ts)
    ∙ sym (sum_by-cons (λ (x : Template). cond (bytes_eq x.kind kind) 1 0) t ts))

pub demanding_is : (pins : List PinRow) (F : FillingValue) (n : ℕ) (ts : List Template)
    → demanding_of pins (filled_segments F n ts) ≡ demanding_count pins ts
demanding_is pins F n [] = refl
demanding_is pins F n (t ∷ ts) =
    sum_by-cons (λ (x : OwnedSegment). cond (is_demanding pins x.head.id) 1 0) (filled_segment F n t) (filled_segments F (n + 1) ts)
    ∙ (ap (λ (m : ℕ). cond (is_demanding pins t.kind) 1 0 + m) (demanding_is pins F (n + 1) ts)
    ∙ sym (sum_by-cons (λ (x : Template). cond (is_demanding pins x.kind) 1 0) t ts))

pub tan_orders_are : (F : FillingValue) (n : ℕ) (ts : List Template)
    → list_any (λ (s : OwnedSegment). is_tan_order s.head.id) (filled_segments F n ts) ≡ list_any
    is_tan_segment ts
tan_orders_are F n [] = refl
tan_orders_are F n (t ∷ ts) = ap (λ (b : Bool). is_tan_order t.kind || b) (tan_orders_are F (n + 1) ts)

-- ---- one template more

pub demanding_step : (pins : List PinRow) (ts : List Template) (i : ℕ) (t : Template) (b : Bool)
    → i < length ts → t ≡ get_or ts i t → b ≡ is_demanding pins t.kind
    → demanding_count pins (take (i + 1) ts) ≡ cond b (demanding_count pins (take i ts) + 1)
    (demanding_count pins (take i ts))
demanding_step pins ts i t b lt at is = by_test b lt (ap test (sym at) ∙ sym is)
  where
    test : Template → Bool
    test x = is_demanding pins x.kind

    by_test : (b : Bool) → i < length ts → test (get_or ts i t) ≡ b
        → demanding_count pins (take (i + 1) ts) ≡ cond b (demanding_count pins (take i ts) + 1)
        (demanding_count pins (take i ts))
    by_test true lt h = count_by_more_yes test ts i t lt h
    by_test false lt h = count_by_more_no test ts i t lt h

pub count_step : (kind : List ℕ) (ts : List Template) (i : ℕ) (t : Template) (b : Bool) → i < length ts
    → t ≡ get_or ts i t → b ≡ has_kind kind t
    → template_count kind (take (i + 1) ts) ≡ cond b (template_count kind (take i ts) + 1)
    (template_count kind (take i ts))
count_step kind ts i t b lt at is = by_test b lt (ap (has_kind kind) (sym at) ∙ sym is)
  where
    by_test : (b : Bool) → i < length ts → has_kind kind (get_or ts i t) ≡ b
        → template_count kind (take (i + 1) ts) ≡ cond b (template_count kind (take i ts) + 1)
        (template_count kind (take i ts))
    by_test true lt h = count_by_more_yes (has_kind kind) ts i t lt h
    by_test false lt h = count_by_more_no (has_kind kind) ts i t lt h

-- ---- different kinds

eq_turned : (a b : List ℕ) → bytes_eq a b ≡ bytes_eq b a
eq_turned a b = let d = bytes_eq-Decides b a in same_from_decides (bytes_eq a b) (bytes_eq b a) (bytes_eq-Decides a b) (λ h. sym (d.0 h), λ e. d.1 (sym e))

any_kind : (kind : List ℕ) (ts : List Template)
    → list_any (bytes_eq kind) (map (λ (t : Template). t.kind) ts) ≡ list_any (has_kind kind) ts
any_kind kind [] = refl
any_kind kind (t ∷ ts) =
    ap (λ (b : Bool). b || list_any (bytes_eq kind) (map (λ (x : Template). x.kind) ts))
    (eq_turned kind t.kind)
    ∙ ap (λ (b : Bool). has_kind kind t || b) (any_kind kind ts)

-- an order's kind is among those after it exactly where a template there has it
among : (kind : List ℕ) (ts : List Template) → is_plain_order kind ≡ true
    → is_member bytes_eq (template_kinds ts) kind ≡ list_any (has_kind kind) ts
among kind ts plain =
    let kinds : List (List ℕ) = map (λ (t : Template). t.kind) ts in
    let same = λ (k : List ℕ) (e : bytes_eq kind k ≡ true). subst (λ (x : List ℕ). is_plain_order x ≡ true) ((bytes_eq-Decides kind k).0 e) plain in
    any-filter_same (bytes_eq kind) is_plain_order true same kinds ∙ any_kind kind ts

-- ..so that it is new where none has it
first_of : (t : Template) (ts : List Template) (b : Bool) → b ≡ is_last_of_kind t ts
    → distinct_count bytes_eq (template_kinds (t ∷ ts)) ≡ cond b
    (distinct_count bytes_eq (template_kinds ts) + 1) (distinct_count bytes_eq (template_kinds ts))
first_of t ts b is = elim (cases_Bool (is_plain_order t.kind)) [
  | inl plain ↦
      rw plain
      (by_member (list_any (has_kind t.kind) ts) (among t.kind ts plain)
      (is ∙ ap (λ (p : Bool). p && not (list_any (has_kind t.kind) ts)) plain))
  | inr other ↦ rw other (unchanged (is ∙ ap (λ (p : Bool). p && not (list_any (has_kind t.kind) ts)) other))
]
  where
    kinds : List (List ℕ)
    kinds = template_kinds ts

    n : ℕ
    n = distinct_count bytes_eq kinds

    by_member : (m : Bool) → is_member bytes_eq kinds t.kind ≡ m → b ≡ (true && not m)
        → distinct_count bytes_eq (t.kind ∷ kinds) ≡ cond b (n + 1) n
    by_member true h e =
        ap (λ (x : Bool). length (cond x (unique_keys bytes_eq kinds) (t.kind ∷ unique_keys bytes_eq kinds)))
        h
        ∙ ap (λ (x : Bool). cond x (n + 1) n) (sym e)
    by_member false h e =
        ap (λ (x : Bool). length (cond x (unique_keys bytes_eq kinds) (t.kind ∷ unique_keys bytes_eq kinds)))
        h
        ∙ (omega arith ∙ ap (λ (x : Bool). cond x (n + 1) n) (sym e))

    unchanged : b ≡ false → n ≡ cond b (n + 1) n
    unchanged e = ap (λ (x : Bool). cond x (n + 1) n) (sym e)

pub kinds_step : (ts : List Template) (i : ℕ) (t : Template) (b : Bool) → i < length ts → t ≡ get_or ts i t
    → b ≡ is_last_of_kind t (drop (i + 1) ts)
    → distinct_count bytes_eq (template_kinds (drop i ts)) ≡ cond b
    (distinct_count bytes_eq (template_kinds (drop (i + 1) ts)) + 1)
    (distinct_count bytes_eq (template_kinds (drop (i + 1) ts)))
kinds_step ts i t b lt at is =
    ap (λ (xs : List Template). distinct_count bytes_eq (template_kinds xs))
    (drop_more ts i t lt ∙ ap (λ (x : Template). x ∷ drop (i + 1) ts) (sym at))
    ∙ first_of t (drop (i + 1) ts) b is
