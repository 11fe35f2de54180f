-- Branches, steps and the top give the first kind of fault in them.
use Rattle.std.proofs.Common.{◌≡◌, ℕ, ◌+◌, ◌≤◌, Bool, true, false, ◌&&◌, ◌||◌, not, nat_le, nat_lt, cond, codes, List, [], length, Option, Some, None, Ok, Err, refl, ap, subst, sym, ◌∙◌, inl, inr, arith}
use Rattle.std.specs.Prelude.{is_some, position, ok_or}
use Rattle.std.specs.Str.{bytes_eq}
use Rattle.std.proofs.lemmas.Bool.{false≢true, or_cases, or_parts}
use Rattle.std.proofs.lemmas.Bool.Decides.{nat_tests}
use Rattle.toml.specs.Data.{Data, string, boolean, array, table, Members, get_member}
use Rattle.fints_syntax_texts.specs.Document.{item_list, only_keys}
use Rattle.fints_syntax_texts.specs.Entries.{is_called}
use Rattle.fints_script_cases.specs.Patterns.{pattern_in}
use Rattle.fints_script_rows.specs.PartLaws.{bind_ok, each_length, next_ok}
use Rattle.fints_script_rows.specs.Parts.{Part, ◌>>=◌, at_most, each, entries_of, integer_in, not_empty, must}
use Rattle.fints_script_rows.specs.declared.fault.FaultKind.{FaultKind}
use Rattle.fints_script_rows.specs.declared.fault.FaultKind.TheVariants as kinds
use Rattle.fints_script_rows.specs.declared.fields.NamedField.{NamedField}
use Rattle.fints_script_rows.specs.declared.limits.TheConstants.{MAX_BRANCHES, MAX_FIELDS, MAX_REPEAT, MAX_SEGMENTS, MAX_SIGNATURES, MAX_SIGNERS, MAX_STEPS, MAX_WEIGHT}
use Rattle.fints_script_cases.specs.declared.answers.Target.{Target}
use Rattle.fints_script_cases.specs.declared.answers.Target.TheVariants as targets
use Rattle.fints_script_templates.specs.Segments.{segment_in}
use Rattle.fints_script_templates.specs.declared.template.Signer.{Signer}
use Rattle.fints_script_templates.specs.declared.template.Template.{Template}
use Rattle.fints_script.specs.RefusalLaws.{InArray, InBranch, InBranches, InInteger, InJump, InKeys, InPattern, InRows, InSealed, InSegment, InSegments, InSignature, InSignatures, InSome, InStep, InStepKeys, InStepRows, InTarget, InTop, Empty, Kinds, Over, TooHeavy, TooLong, Where, segments_read, values_of, ◌∪◌}
use Rattle.fints_script.specs.Scripts.{rows_in, step_rows, top_in, top_keys, top_value}
use Rattle.fints_script.specs.Steps.{Surroundings, branch_in, branch_keys, branch_value, branches_in, is_taken_step, is_too_large, later_step, on_in, place_of_signer, sealed_in, segments_in, signature_in, signatures_in, step_in, step_keys, step_value, table_branch, table_step, target_in, StepValue, has_large_segment, step_weight, sized_step}
use Rattle.fints_script.proofs.ReadParts.{at_most_ok, not_empty_ok, not_past, passed, same_ok}
use Rattle.fints_script.proofs.ToldKinds.{Told, clean, each_told, else_told, fails, first_told, holds, just, needed, next_told, when, wide, Tells, Within, behind_within, or_within, then_told, where_within}
use Rattle.fints_script.proofs.ToldParts.{empty_told, few_told, limit_told, past, values_are, integer_told, keys_told, may_told, must_told, name_told, over_tells, over_within, some_told}
use Rattle.fints_script.proofs.ToldFrames.{segment_told}

-- ---- lists

-- entries, and not too many
list_told : {X : Type 0} (most : ℕ) (part : Data → Part X) (faults : Data → Kinds)
    → ((d : Data) → Told 2 11 (part d) (faults d))
    → (d : Data)
    → Told 2 11 (entries_of d >>= each part >>= at_most most)
    (InArray (λ ds. InSome faults ds ∪ Over most (length ds)) d)
list_told most part faults told (array ds) =
    few_told most (length (item_list ds)) (each_told part faults told (item_list ds))
    (λ xs e. each_length part (item_list ds) xs e)
list_told most part faults told _ = just 2 11 kinds.WrongKind (omega arith) (omega arith)

count_kept : (ds xs : List Data) → not_empty ds ≡ Ok xs → length xs ≡ length ds
count_kept ds xs e = ap length (sym (not_empty_ok ds xs e).0)

-- some entries, and not too many
some_list_told : {X : Type 0} (most : ℕ) (part : Data → Part X) (faults : Data → Kinds)
    → ((d : Data) → Told 2 11 (part d) (faults d))
    → (d : Data) → Told 2 11 (entries_of d >>= not_empty >>= each part >>= at_most most)
    (InArray (λ ds. Empty ds ∪ InSome faults ds ∪ Over most (length ds)) d)
some_list_told most part faults told (array ds) =
    few_told most (length (item_list ds)) (some_told part faults told (item_list ds))
    (λ xs e.
    let read = bind_ok (not_empty (item_list ds)) (each part) xs e in
    each_length part read.0 xs read.2 ∙ count_kept (item_list ds) read.0 read.1)
some_list_told most part faults told _ = just 2 11 kinds.WrongKind (omega arith) (omega arith)

-- ---- branches

module _ (rows : List Data) (i : ℕ) where
  back_told : (b : Bool) (row : ℕ) → nat_le row i ≡ b
      → Told 2 11 (cond b (Err kinds.BackwardJump) (Ok (targets.Step (row + 1))))
      (Where kinds.BackwardJump (row ≤ i))
  back_told true row e =
      holds 2 11 kinds.BackwardJump (row ≤ i) (grind (arith, nat_tests, e)) (omega arith) (omega arith)
  back_told false row e =
      fails 2 11 (targets.Step (row + 1)) kinds.BackwardJump (row ≤ i) (λ h. grind (arith, nat_tests, e, h))

  jump_told : (o : Option ℕ) → Told 2 11 (later_step i o) (InJump i o)
  jump_told None = just 2 11 kinds.NoSuchName (omega arith) (omega arith)
  jump_told (Some row) = back_told (nat_le row i) row refl

  words_told : {p : Part Target} {faults : Kinds} (b c : Bool) (x y : Target) → Told 2 11 p faults
      → Told 2 11 (cond b (Ok x) (cond c (Ok y) p)) (λ k. ((b || c) ≡ false) × faults k)
  words_told {p} {faults} true c x y told =
      clean 2 11 x (λ k. ((true || c) ≡ false) × faults k) (λ k s. absurd (let e = s.0 in cc))
  words_told false c x y told = else_told c y told

  target_told : (d : Data) → Told 2 11 (target_in rows i d) (InTarget rows i d)
  target_told (string text) =
      words_told (bytes_eq text (codes "again")) (bytes_eq text (codes "stop")) targets.Again targets.Stop
      (jump_told (position (is_called text) rows))
  target_told _ = just 2 11 kinds.WrongKind (omega arith) (omega arith)

  pattern_told : (d : Data) → Told 2 11 (on_in d) (InPattern d)
  pattern_told (string text) = needed 2 11 (pattern_in text) kinds.BadPattern (omega arith) (omega arith)
  pattern_told _ = just 2 11 kinds.WrongKind (omega arith) (omega arith)

  branch_told : (d : Data) → Told 2 11 (branch_in rows i d) (InBranch rows i d)
  unfolding table_branch
  branch_told (table ms) =
      keys_told branch_keys ms
      (next_told (first_told branch_value (must_told ms (codes "on") on_in InPattern pattern_told))
      (must_told ms (codes "to") (target_in rows i) (InTarget rows i) target_told))
  branch_told _ = just 2 11 kinds.WrongKind (omega arith) (omega arith)

  branches_told : (d : Data) → Told 2 11 (branches_in rows i d) (InBranches rows i d)
  branches_told d = list_told MAX_BRANCHES (branch_in rows i) (InBranch rows i) branch_told d

-- ---- what a step sends

signature_told : (signers : List Signer) (d : Data)
    → Told 2 11 (signature_in signers d) (InSignature signers d)
signature_told signers (string name) =
    needed 2 11 (place_of_signer signers name) kinds.NoSuchName (omega arith) (omega arith)
signature_told signers _ = just 2 11 kinds.WrongKind (omega arith) (omega arith)

signatures_told : (signers : List Signer) (d : Data)
    → Told 2 11 (signatures_in signers d) (InSignatures signers d)
signatures_told signers d =
    list_told MAX_SIGNATURES (signature_in signers) (InSignature signers) (signature_told signers) d

segments_told : (fields : List NamedField) (d : Data) → Told 2 11 (segments_in fields d) (InSegments fields d)
segments_told fields d =
    some_list_told MAX_SEGMENTS (segment_in fields) (InSegment fields) (segment_told fields) d

sealed_told : (has_seal : Bool) (d : Data) → Told 2 11 (sealed_in has_seal d) (InSealed has_seal d)
sealed_told has_seal (boolean sealed) =
    when 2 11 (sealed && not has_seal) sealed kinds.Missing (omega arith) (omega arith)
sealed_told has_seal _ = just 2 11 kinds.WrongKind (omega arith) (omega arith)

-- ---- the whole step

keys_of_step_told : (around : Surroundings) (i : ℕ) (ms : Members)
    → Told 2 11 (table_step around i ms) (InKeys step_keys ms (InStepKeys around i ms))
unfolding table_step
keys_of_step_told around i ms =
    keys_told step_keys ms
    (next_told
    (next_told
    (next_told
    (next_told
    (next_told
    (next_told (first_told step_value (name_told (is_taken_step around.rows i) ms))
    (must_told ms (codes "segments") (segments_in around.fields) (InSegments around.fields)
    (segments_told around.fields)))
    (may_told ms (codes "sealed") false (sealed_in (is_some around.seal)) (InSealed (is_some around.seal))
    (sealed_told (is_some around.seal))))
    (may_told ms (codes "signers") [] (signatures_in around.signers) (InSignatures around.signers)
    (signatures_told around.signers)))
    (may_told ms (codes "repeat") 1 (integer_in 1 MAX_REPEAT) (InInteger 1 MAX_REPEAT)
    (integer_told 1 MAX_REPEAT)))
    (may_told ms (codes "branches") [] (branches_in around.rows i) (InBranches around.rows i)
    (branches_told around.rows i)))
    (may_told ms (codes "default") targets.Stop (target_in around.rows i) (InTarget around.rows i)
    (target_told around.rows i)))

-- the segments of a step that was read are those that have a value
templates_are : (around : Surroundings) (i : ℕ) (ms : Members) (step : StepValue)
    → table_step around i ms ≡ Ok step
    → must ms (codes "segments") (segments_in around.fields) ≡ Ok step.templates
unfolding table_step
templates_are around i ms step e =
    let whole = passed (only_keys step_keys ms) _ kinds.UnknownKey step e in
    let seven = next_ok _ _ step whole.1 in
    let six = next_ok _ _ seven.0 seven.2 in
    let five = next_ok _ _ six.0 six.2 in
    let four = next_ok _ _ five.0 five.2 in
    let three = next_ok _ _ four.0 four.2 in
    let two = next_ok _ _ three.0 three.2 in
    let one = next_ok _ _ two.0 two.2 in
    let first = same_ok step_value one.0 one.2 in
    let is : step_value one.1 two.1 three.1 four.1 five.1 six.1 seven.1 ≡ step = cc in
    subst (λ (s : StepValue). must ms (codes "segments")
    (segments_in around.fields) ≡ Ok s.templates) is two.3

array_read : (fields : List NamedField) (d : Data) (ts : List Template) → segments_in fields d ≡ Ok ts
    → segments_read fields (Some d) ≡ ts
array_read fields (array ds) ts e =
    let read = bind_ok (not_empty (item_list ds) >>= each (segment_in fields)) (at_most MAX_SEGMENTS) ts e in
    let some = bind_ok (not_empty (item_list ds)) (each (segment_in fields)) read.0 read.1 in
    ap (values_of (segment_in fields)) (not_empty_ok (item_list ds) some.0 some.1).0
    ∙ values_are (segment_in fields) some.0 read.0 some.2
    ∙ (at_most_ok MAX_SEGMENTS read.0 ts read.2).0
array_read fields _ ts e = absurd cc

segments_are : (fields : List NamedField) (o : Option Data) (ts : List Template)
    → (ok_or o kinds.Missing >>= segments_in fields) ≡ Ok ts → segments_read fields o ≡ ts
segments_are fields None ts e = absurd cc
segments_are fields (Some d) ts e = array_read fields d ts e

module _ (around : Surroundings) (i : ℕ) (ms : Members) where
  size_within : Within 11 11 (TooLong around ms ∪ TooHeavy around i ms)
  size_within =
      or_within (where_within 11 11 kinds.Limit _ (omega arith) (omega arith))
      (behind_within (table_step around i ms) (λ step. Over MAX_WEIGHT (step_weight around step))
      (λ step. over_within MAX_WEIGHT (step_weight around step)))

  module _ (step : StepValue) (is : table_step around i ms ≡ Ok step) where
    same_segments : segments_read around.fields (get_member (codes "segments") ms) ≡ step.templates
    same_segments =
        segments_are around.fields (get_member (codes "segments") ms) step.templates
        (templates_are around i ms step is)

    too_large : is_too_large around step ≡ true → (TooLong around ms ∪ TooHeavy around i ms) kinds.Limit
    too_large t =
        elim (or_cases (has_large_segment around.figures step.templates)
        (nat_lt MAX_WEIGHT (step_weight around step)) t) [
          | inl long ↦ inl (refl, ap (has_large_segment around.figures) same_segments ∙ long)
          | inr heavy ↦ inr (step, is, (refl, past MAX_WEIGHT (step_weight around step) heavy))
        ]

    not_too_large : is_too_large around step ≡ false → (k : FaultKind)
        → (TooLong around ms ∪ TooHeavy around i ms) k → ⊥
    not_too_large f k (inl s) =
        let parts =
        or_parts (has_large_segment around.figures step.templates)
        (nat_lt MAX_WEIGHT (step_weight around step)) f in
        false≢true (sym parts.0 ∙ ap (has_large_segment around.figures) (sym same_segments) ∙ s.1)
    not_too_large f k (inr s) =
        let parts =
        or_parts (has_large_segment around.figures step.templates)
        (nat_lt MAX_WEIGHT (step_weight around step)) f in
        let same : step_weight around s.0 ≡ step_weight around step =
        ap (step_weight around) (same_ok s.0 step (sym s.1 ∙ is)) in
        let light = not_past MAX_WEIGHT (step_weight around step) parts.1 in
        let heavy = s.2.1 in
        omega (arith, same, light, heavy)

  sized_told : (step : StepValue) → table_step around i ms ≡ Ok step
      → Tells (sized_step around step) (TooLong around ms ∪ TooHeavy around i ms)
  sized_told step is =
      limit_told (is_too_large around step) step (TooLong around ms ∪ TooHeavy around i ms) size_within
      (too_large step is)
      (not_too_large step is)

pub step_told : (around : Surroundings) (i : ℕ) (d : Data)
    → Told 2 11 (step_in around i d) (InStep around i d)
step_told around i (table ms) =
    then_told (sized_step around) 11 (omega arith) (omega arith) (keys_of_step_told around i ms)
    (size_within around i ms)
    (sized_told around i ms)
step_told around i _ = just 2 11 kinds.WrongKind (omega arith) (omega arith)

-- ---- the top

rows_told : (most : ℕ) (d : Data) → Told 2 11 (rows_in most d) (InRows most d)
rows_told most (array ds) =
    wide 2 11 (omega arith) (omega arith)
    (record {
      tells = over_tells most (length (item_list ds)) (length (item_list ds)) (item_list ds) refl;
      within = over_within most (length (item_list ds));
    })
rows_told most _ = just 2 11 kinds.WrongKind (omega arith) (omega arith)

step_rows_told : (d : Data) → Told 2 11 (step_rows d) (InStepRows d)
step_rows_told (array ds) =
    few_told MAX_STEPS (length (item_list ds)) (empty_told (item_list ds)) (count_kept (item_list ds))
step_rows_told _ = just 2 11 kinds.WrongKind (omega arith) (omega arith)

pub top_told : (ms : Members) → Told 2 11 (top_in ms) (InTop ms)
unfolding top_in
top_told ms =
    keys_told top_keys ms
    (next_told
    (next_told
    (first_told (top_value (get_member (codes "seal") ms))
    (may_told ms (codes "field") [] (rows_in MAX_FIELDS) (InRows MAX_FIELDS) (rows_told MAX_FIELDS)))
    (may_told ms (codes "signer") [] (rows_in MAX_SIGNERS) (InRows MAX_SIGNERS) (rows_told MAX_SIGNERS)))
    (must_told ms (codes "step") step_rows InStepRows step_rows_told))
