-- What the steps of a read script keep.
use Rattle.std.proofs.Common.{◌≡◌, ℕ, ◌+◌, ◌<◌, ◌≤◌, Bool, true, false, ◌&&◌, not, codes, List, [], ◌∷◌, length, map, take, nat_lt, All, Option, Some, Ok, refl, ap, subst, ◌∙◌, sym, arith}
use Rattle.std.specs.Prelude.{IsSome, ok_or, is_some}
use Rattle.std.specs.List.{list_any}
use Rattle.std.specs.Str.{bytes_eq}
use Rattle.std.proofs.lemmas.Bool.{false≢true, or_parts, not-false}
use Rattle.std.proofs.lemmas.Option.{same_Some}
use Rattle.std.proofs.lemmas.Slice.Eq.{bytes_eq-Decides}
use Rattle.std.proofs.lemmas.List.Elements.{All-cons, All-nil}
use Rattle.toml.specs.Data.{Data, string, table, Members, get_member}
use Rattle.fints_syntax.specs.Kind.{IsKindText, kind_from, frame_kinds, is_frame_kind}
use Rattle.fints_syntax.specs.KindLaws.{kind_from-kind}
use Rattle.fints_syntax_texts.specs.Document.{only_keys}
use Rattle.fints_syntax_texts.specs.Entries.{is_called, name_in}
use Rattle.fints_script_cases.specs.declared.answers.Branch.{Branch}
use Rattle.fints_script_cases.specs.declared.answers.Target.TheVariants as targets
use Rattle.fints_script_rows.specs.FieldParts.{row_named}
use Rattle.fints_script_rows.specs.PartLaws.{bind_ok, each_all, each_length, next_ok, or_ok}
use Rattle.fints_script_rows.specs.Parts.{◌>>=◌, at_most, each, entries_of, flag_in, integer_in, may, must, not_empty, required}
use Rattle.fints_script_rows.specs.RowNames.{row_name}
use Rattle.fints_script_rows.specs.declared.fault.FaultKind.TheVariants as kinds
use Rattle.fints_script_rows.specs.declared.fields.NamedField.{NamedField}
use Rattle.fints_script_templates.specs.Elements.{elements_in}
use Rattle.fints_script_templates.specs.Figures.{figures_of}
use Rattle.fints_script_templates.specs.Segments.{body_kind, kind_in, segment_in, segment_keys, table_segment, template_value}
use Rattle.fints_script_templates.specs.Weights.{most_items}
use Rattle.fints_script_templates.specs.declared.template.Signer.{Signer}
use Rattle.fints_script_templates.specs.declared.template.Template.{Template}
use Rattle.fints_script.specs.Scripts.{ScriptValue, surroundings}
use Rattle.fints_script.specs.Sound.{IsBodyElement, IsOnward, IsSoundStep, IsSoundTemplate, LeadsOnward}
use Rattle.fints_script.specs.Steps.{StepValue, Surroundings, branch_in, branches_in, has_large_segment, is_signer_named, is_taken_step, is_too_large, is_word, place_of_signer, sealed_in, segments_in, signature_in, signatures_in, sized_step, step_in, step_keys, step_value, step_weight, table_step, target_in, with_seal}
use Rattle.fints_script.proofs.ReadParts.{at_most_ok, failed, integer_ok, list_ok, not_empty_ok, not_past, optional_ok, passed, same_ok}
use Rattle.fints_script.proofs.SoundElements.{IsBehindFirst, body_elements, place_within}
use Rattle.fints_script_rows.specs.declared.limits.TheConstants.{MAX_REPEAT, MAX_TEMPLATE_ITEMS, MAX_WEIGHT}
use Rattle.fints_script.proofs.SoundTargets.{branch_onward, target_onward}

-- ---- kinds

-- an identifier is its own text
kind_text : (text kind : List ℕ) → kind_from text ≡ Some kind → (text ≡ kind) × IsKindText text
kind_text text kind h =
    let is : IsKindText text = subst (λ (o : Option (List ℕ)). IsSome o) (sym h) refl in
    (same_Some text kind (sym (kind_from-kind text is) ∙ h), is)

no_frame_of : (text : List ℕ) (frames : List (List ℕ)) → list_any (bytes_eq text) frames ≡ false
    → All (λ frame. frame ≡ text → ⊥) frames
no_frame_of text [] h = All-nil (λ frame. frame ≡ text → ⊥)
no_frame_of text (f ∷ fs) h =
    let parts = or_parts (bytes_eq text f) (list_any (bytes_eq text) fs) h in
    All-cons (λ frame. frame ≡ text → ⊥) f fs (λ e. false≢true (sym parts.0 ∙ (bytes_eq-Decides text f).1 (sym e))) (no_frame_of text fs parts.1)

-- an identifier outside the frame
record IsBodyKind (kind : List ℕ) : Type 0 where
  pub text : IsKindText kind
  pub no_frame : All (λ frame. frame ≡ kind → ⊥) frame_kinds

body_kind_ok : (text kind : List ℕ) → body_kind text ≡ Ok kind → IsBodyKind kind
body_kind_ok text kind e =
    let body = failed (is_frame_kind text) (ok_or (kind_from text) kinds.WrongKind) kinds.WrongKind kind e in
    let is = kind_text text kind (or_ok (kind_from text) kinds.WrongKind kind body.1) in
    subst IsBodyKind is.0 (record { text = is.1; no_frame = no_frame_of text frame_kinds body.0 })

kind_ok : (d : Data) (kind : List ℕ) → kind_in d ≡ Ok kind → IsBodyKind kind
kind_ok (string text) kind e = body_kind_ok text kind e
kind_ok _ kind e = absurd cc

-- ---- segments

-- tests that fail one and all
none_past : {X : Type 0} (most : ℕ) (count : X → ℕ) (xs : List X)
    → list_any (λ x. nat_lt most (count x)) xs ≡ false → All (λ x. count x ≤ most) xs
none_past most count [] h = All-nil (λ x. count x ≤ most)
none_past most count (x ∷ xs) h =
    let parts = or_parts (nat_lt most (count x)) (list_any (λ y. nat_lt most (count y)) xs) h in
    All-cons (λ y. count y ≤ most) x xs (not_past most (count x) parts.0) (none_past most count xs parts.1)

module _ (fields : List NamedField) (behind : IsBehindFirst fields) where
  abbrev IsFew : Template → Type 0
  IsFew t = most_items (map figures_of fields) t.elements ≤ MAX_TEMPLATE_ITEMS

  sound_members : (ms : Members) (t : Template) → table_segment fields ms ≡ Ok t → IsFew t
      → IsSoundTemplate fields t
  unfolding table_segment
  sound_members ms t e =
      let whole = passed (only_keys segment_keys ms) _ kinds.UnknownKey t e in
      let elements = next_ok _ _ t whole.1 in
      let head = next_ok _ _ elements.0 elements.2 in
      let first = next_ok _ _ head.0 head.2 in
      let of = same_ok template_value first.0 first.2 in
      let is : template_value first.1 head.1 elements.1 ≡ t = cc in
      let kind_value = bind_ok (required (codes "kind") ms) kind_in first.1 first.3 in
      let version_value = bind_ok (required (codes "version") ms) (integer_in 1 999) head.1 head.3 in
      let kind = kind_ok kind_value.0 first.1 kind_value.2 in
      let version = integer_ok 1 999 version_value.0 head.1 version_value.2 in
      subst (λ (s : Template). IsFew s → IsSoundTemplate fields s) is (λ few. record {
        kind = kind.text;
        no_frame = kind.no_frame;
        least = version.0;
        most = version.1;
        each =
            optional_ok [] (elements_in fields true) (All (IsBodyElement fields))
            (All-nil (IsBodyElement fields)) (body_elements fields behind)
            (get_member (codes "elements") ms) elements.1 elements.3;
        few = few;
      })

  sound_template : (d : Data) (t : Template) → segment_in fields d ≡ Ok t → IsFew t → IsSoundTemplate fields t
  sound_template (table ms) t e few = sound_members ms t e few
  sound_template _ t e few = absurd cc

  -- 1 to 100 segments, where none has too many items
  pub sound_templates : (d : Data) (ts : List Template) → segments_in fields d ≡ Ok ts
      → has_large_segment (map figures_of fields) ts ≡ false
      → (1 ≤ length ts) × (length ts ≤ 100) × All (IsSoundTemplate fields) ts
  sound_templates d ts e small =
      let outer = bind_ok (entries_of d >>= not_empty >>= each (segment_in fields)) (at_most 100) ts e in
      let read = bind_ok (entries_of d >>= not_empty) (each (segment_in fields)) outer.0 outer.1 in
      let entries = bind_ok (entries_of d) not_empty read.0 read.1 in
      let some = not_empty_ok entries.0 read.0 entries.2 in
      let few = at_most_ok 100 outer.0 ts outer.2 in
      let count : length read.0 ≡ length ts = sym (each_length (segment_in fields) read.0 outer.0 read.2) ∙ ap length few.0 in
      let each_is = each_all (segment_in fields) (λ (t : Template). IsFew t → IsSoundTemplate fields t) sound_template read.0 outer.0 read.2 in
      let one = some.1 in
      let each_small = none_past MAX_TEMPLATE_ITEMS (λ (t : Template). most_items (map figures_of fields) t.elements) ts small in
      (omega (arith, one, count), few.1, λ k d lt. subst (All (λ (t : Template). IsFew t → IsSoundTemplate fields t)) few.0 each_is k d lt (each_small k d lt))

-- ---- signatures and the seal

signature_within : (signers : List Signer) (d : Data) (place : ℕ) → signature_in signers d ≡ Ok place
    → place < length signers
signature_within signers (string name) place e =
    place_within (is_signer_named name) signers place
    (or_ok (place_of_signer signers name) kinds.NoSuchName place e)
signature_within signers _ place e = absurd cc

-- a seal that is asked for is there
seal_there : (there sealed : Bool) → (sealed && not there) ≡ false → sealed ≡ true → there ≡ true
seal_there there true h e = not-false there h
seal_there there false h e = absurd (false≢true e)

sealed_kept : (there : Bool) (d : Data) (sealed : Bool) → sealed_in there d ≡ Ok sealed → sealed ≡ true
    → there ≡ true
sealed_kept there d sealed e =
    let read = bind_ok (flag_in d) (with_seal there) sealed e in
    let kept = failed (read.0 && not there) (Ok read.0) kinds.Missing sealed read.2 in
    subst (λ b. b ≡ true → there ≡ true) (same_ok read.0 sealed kept.1) (seal_there there read.0 kept.0)

-- ---- steps

-- what the table of a step has, part by part
record IsStep (around : Surroundings) (i : ℕ) (ms : Members) (step : StepValue) : Type 0 where
  pub name : row_name (is_taken_step around.rows i) ms ≡ Ok step.name
  pub templates : must ms (codes "segments") (segments_in around.fields) ≡ Ok step.templates
  pub sealed : may ms (codes "sealed") false (sealed_in (is_some around.seal)) ≡ Ok step.sealed
  pub signers : may ms (codes "signers") [] (signatures_in around.signers) ≡ Ok step.signers
  pub repeat : may ms (codes "repeat") 1 (integer_in 1 MAX_REPEAT) ≡ Ok step.repeat
  pub branches : may ms (codes "branches") [] (branches_in around.rows i) ≡ Ok step.branches
  pub otherwise : may ms (codes "default") targets.Stop (target_in around.rows i) ≡ Ok step.otherwise
  pub size : is_too_large around step ≡ false

module _ (around : Surroundings) (i : ℕ) (ms : Members) where
  step_is : (step : StepValue) → table_step around i ms ≡ Ok step → is_too_large around step ≡ false
      → IsStep around i ms step
  unfolding table_step
  step_is step e size =
      let whole = passed (only_keys step_keys ms) _ kinds.UnknownKey step e in
      let seven = next_ok _ _ step whole.1 in
      let six = next_ok _ _ seven.0 seven.2 in
      let five = next_ok _ _ six.0 six.2 in
      let four = next_ok _ _ five.0 five.2 in
      let three = next_ok _ _ four.0 four.2 in
      let two = next_ok _ _ three.0 three.2 in
      let one = next_ok _ _ two.0 two.2 in
      let first = same_ok step_value one.0 one.2 in
      let is : step_value one.1 two.1 three.1 four.1 five.1 six.1 seven.1 ≡ step = cc in
      subst (λ (s : StepValue). is_too_large around s ≡ false → IsStep around i ms s) is
      (λ small. record {
        name = one.3;
        templates = two.3;
        sealed = three.3;
        signers = four.3;
        repeat = five.3;
        branches = six.3;
        otherwise = seven.3;
        size = small;
      })
      size

-- the row of a step is a table that has its parts
step_row : (around : Surroundings) (i : ℕ) (row : Data) (step : StepValue) → step_in around i row ≡ Ok step
    → (ms : Members) × (row ≡ table ms) × IsStep around i ms step
step_row around i (table ms) step e =
    let read = bind_ok (table_step around i ms) (sized_step around) step e in
    let size = failed (is_too_large around read.0) (Ok read.0) kinds.Limit step read.2 in
    subst (λ s. (m : Members) × (table ms ≡ table m) × IsStep around i m s) (same_ok read.0 step size.1) (ms, refl, step_is around i ms read.0 read.1 size.0)
step_row around i _ step e = absurd cc

-- the row of a step gives its name, which no earlier row has
pub step_named : (around : Surroundings) (i : ℕ) (row : Data) (step : StepValue)
    → step_in around i row ≡ Ok step
    → (name_in row ≡ Some step.name) × (list_any (is_called step.name) (take i around.rows) ≡ false)
step_named around i row step e =
    let read = step_row around i row step e in
    let named = row_named (is_taken_step around.rows i) read.0 step.name read.2.name in
    (ap name_in read.1 ∙ named.0, (or_parts (is_word step.name) (list_any (is_called step.name) (take i around.rows)) named.1).1)

-- ---- what its parts keep

branches_kept : (rows : List Data) (i : ℕ) (ms : Members) (branches : List Branch)
    → may ms (codes "branches") [] (branches_in rows i) ≡ Ok branches
    → All (λ (branch : Branch). IsOnward (length rows) (i + 1) branch.to) branches × (length branches ≤ 20)
branches_kept rows i ms branches e =
    let onward : Branch → Type 0 = λ branch. IsOnward (length rows) (i + 1) branch.to in
    optional_ok [] (branches_in rows i) (λ bs. All onward bs × (length bs ≤ 20)) (All-nil onward, omega arith)
    (list_ok 20 (branch_in rows i) onward (branch_onward rows i)) (get_member (codes "branches") ms)
    branches e

signatures_kept : (signers : List Signer) (ms : Members) (places : List ℕ)
    → may ms (codes "signers") [] (signatures_in signers) ≡ Ok places
    → All (λ place. place < length signers) places × (length places ≤ 9)
signatures_kept signers ms places e =
    let within : ℕ → Type 0 = λ place. place < length signers in
    optional_ok [] (signatures_in signers) (λ ns. All within ns × (length ns ≤ 9))
    (All-nil within, omega arith) (list_ok 9 (signature_in signers) within (signature_within signers))
    (get_member (codes "signers") ms) places e

repeat_kept : (ms : Members) (n : ℕ) → may ms (codes "repeat") 1 (integer_in 1 99) ≡ Ok n → (1 ≤ n) × (n ≤ 99)
repeat_kept ms n e = optional_ok 1 (integer_in 1 99) (λ m. (1 ≤ m) × (m ≤ 99)) (omega arith, omega arith) (integer_ok 1 99) (get_member (codes "repeat") ms) n e

seal_kept : (there : Bool) (ms : Members) (sealed : Bool)
    → may ms (codes "sealed") false (sealed_in there) ≡ Ok sealed → sealed ≡ true
    → there ≡ true
seal_kept there ms sealed e =
    optional_ok false (sealed_in there) (λ b. b ≡ true → there ≡ true) (λ set. absurd (false≢true set))
    (sealed_kept there) (get_member (codes "sealed") ms) sealed e

-- ---- the whole step

-- a step that was read leads to later ones
pub step_onward : (around : Surroundings) (i : ℕ) (row : Data) (step : StepValue)
    → step_in around i row ≡ Ok step → LeadsOnward (length around.rows) (i + 1) step
step_onward around i row step e =
    let read = step_row around i row step e in
    record {
      branches = (branches_kept around.rows i read.0 step.branches read.2.branches).0;
      otherwise =
          optional_ok targets.Stop (target_in around.rows i) (IsOnward (length around.rows) (i + 1)) tt
          (target_onward around.rows i) (get_member (codes "default") read.0) step.otherwise
          read.2.otherwise;
    }

pub sound_step : (s : ScriptValue) → IsBehindFirst s.fields
    → (rows : List Data) (i : ℕ) (row : Data) (step : StepValue)
    → step_in (surroundings rows s.fields s.signers s.seal) i row ≡ Ok step → IsSoundStep s step
sound_step s behind rows i row step e =
    let around = surroundings rows s.fields s.signers s.seal in
    let read = step_row around i row step e in
    let is = read.2 in
    let size = or_parts (has_large_segment around.figures step.templates) (nat_lt MAX_WEIGHT (step_weight around step)) is.size in
    let segments = bind_ok (required (codes "segments") read.0) (segments_in s.fields) step.templates is.templates in
    let templates = sound_templates s.fields behind segments.0 step.templates segments.2 size.0 in
    let signers = signatures_kept s.signers read.0 step.signers is.signers in
    let repeat = repeat_kept read.0 step.repeat is.repeat in
    record {
      signers = signers.0;
      few_signers = signers.1;
      some_templates = templates.0;
      few_templates = templates.1;
      few_branches = (branches_kept rows i read.0 step.branches is.branches).1;
      once = repeat.0;
      often = repeat.1;
      templates = templates.2;
      seal = seal_kept (is_some s.seal) read.0 step.sealed is.sealed;
      light = not_past MAX_WEIGHT (step_weight around step) size.1;
    }
