-- The place of the next mark after the first byte.
use Rattle.std.proofs.Common.{◌≡◌, ℕ, ◌+◌, ◌-◌, ◌<◌, ◌≤◌, List, [], ◌++◌, length, drop, take, refl, ap, sym, subst, ◌∙◌, arith, inl, inr}
use Rattle.std.specs.Prelude.{slice_index}
use Rattle.std.proofs.lemmas.List.{append-nil, get_or-drop, length-drop, length-take-le, take-append-drop}
use Rattle.memchr.specs.Find.{Nowhere, NoneBefore, OccursAt}
use Rattle.fints_rules_logs.specs.Standing.{IsUpToNext}

occurs_behind : (text mark : List ℕ) (k : ℕ) → 0 < k → OccursAt text mark k → OccursAt (drop 1 text) mark (k - 1)
occurs_behind text mark k some h = record {
  fits = omega (arith, some, h.fits, length-drop 1 text);
  reads =
      λ j lt.
      get_or-drop 1 text (k - 1 + j) 0 ∙ ap (λ n. slice_index text n) (omega (arith, some)) ∙ h.reads j lt;
}

occurs_before : (text mark : List ℕ) (k : ℕ) → 0 < length text → OccursAt (drop 1 text) mark k → OccursAt text mark (k + 1)
occurs_before text mark k some h = record {
  fits = omega (arith, some, h.fits, length-drop 1 text);
  reads =
      λ j lt.
      ap (λ n. slice_index text n) (omega arith) ∙ sym (get_or-drop 1 text (k + j) 0) ∙ h.reads j lt;
}

pub up_to_mark : (text mark own : List ℕ) (at : ℕ) → 0 < length text → own ≡ take (at + 1) text
    → NoneBefore (OccursAt (drop 1 text) mark) 0 (length (drop 1 text) + 1) at → OccursAt (drop 1 text) mark at
    → IsUpToNext mark text own
up_to_mark text mark own at some own_is before occurs =
    let within : at + 1 ≤ length text = omega (arith, some, occurs.fits, length-drop 1 text) in
    let len : length own ≡ at + 1 = ap length own_is ∙ length-take-le (at + 1) text within in
    record {
      rest = drop (at + 1) text;
      some = omega (arith, len);
      split = sym (take-append-drop (at + 1) text) ∙ ap (λ xs. xs ++ drop (at + 1) text) (sym own_is);
      none =
          λ k pos lt h.
          before.before (k - 1) (omega arith) (omega (arith, pos, lt, len)) (occurs_behind text mark k pos h);
      ends = inr (subst (OccursAt text mark) (sym len) (occurs_before text mark at some occurs));
    }

pub no_next : (text mark : List ℕ) → 0 < length text
    → Nowhere (OccursAt (drop 1 text) mark) 0 (length (drop 1 text) + 1) → IsUpToNext mark text text
no_next text mark some none = record {
  rest = [];
  some = some;
  split = sym (append-nil text);
  none =
      λ k pos lt h.
      none (k - 1) (omega arith) (omega (arith, pos, lt, length-drop 1 text)) (occurs_behind text mark k pos h);
  ends = inl refl;
}
