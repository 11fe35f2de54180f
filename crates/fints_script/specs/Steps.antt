-- What a step's row is: a step, or the first kind of fault in it.
use Rattle.fints_script_rows.specs.declared.limits.TheConstants.{MAX_BRANCHES, MAX_REPEAT, MAX_SEGMENTS, MAX_SIGNATURES, MAX_TEMPLATE_ITEMS, MAX_WEIGHT}
use Rattle.std.specs.Prelude.{codes, ℕ, ◌+◌, nat_le, nat_lt, Bool, true, false, ◌&&◌, ◌||◌, not, if◌then◌else◌, List, [], ◌∷◌, position, slice_get, take, Option, Some, None, is_some, Ok, Err, ok_or}
use Rattle.std.specs.List.{list_any}
use Rattle.std.specs.Option.{option_map_or}
use Rattle.std.specs.Str.{bytes_eq}
use Rattle.toml.specs.Data.{Data, string, table, Members}
use Rattle.fints_syntax_texts.specs.Document.{only_keys}
use Rattle.fints_syntax_texts.specs.Entries.{is_called}
use Rattle.fints_script_cases.specs.Patterns.{pattern_in}
use Rattle.fints_script_rows.specs.Parts.{Part, ◌>>=◌, ◌<*>◌, at_most, each, entries_of, flag_in, integer_in, may, must, not_empty}
use Rattle.fints_script_rows.specs.RowNames.{row_name}
use Rattle.fints_script_templates.specs.Segments.{segment_in}
use Rattle.fints_script_templates.specs.Weights.{total, segment_weight, signer_weight, most_items}
use Rattle.fints_script_rows.specs.declared.fault.FaultKind.TheVariants as kinds
use Rattle.fints_script_rows.specs.declared.fields.NamedField.{NamedField}
use Rattle.fints_script_cases.specs.declared.answers.Branch.{Branch}
use Rattle.fints_script_cases.specs.declared.answers.Target.{Target}
use Rattle.fints_script_cases.specs.declared.answers.Target.TheVariants as targets
use Rattle.fints_script_templates.specs.declared.template.TemplateItem.{TemplateItem}
use Rattle.fints_script_templates.specs.declared.template.Template.{Template}
use Rattle.fints_script_templates.specs.declared.template.Signer.{Signer}
use Rattle.fints_script_templates.specs.declared.weights.FieldWeight.{FieldWeight}

-- what a contract sees of a step; signers count from 0 among those of the script
pub record StepValue : Type 0 where
  pub name : List ℕ
  pub templates : List Template
  pub sealed : Bool
  pub signers : List ℕ
  pub repeat : ℕ
  pub branches : List Branch
  pub otherwise : Target

-- what a step rests on: the fields with their figures, the signers, the seal if any, and all rows of `step`
pub record Surroundings : Type 0 where
  pub fields : List NamedField
  pub figures : List FieldWeight
  pub signers : List Signer
  pub seal : Option (List (List TemplateItem))
  pub rows : List Data

-- ---- targets and branches

abbrev pub is_word : List ℕ → Bool
is_word text = bytes_eq text (codes "again") || bytes_eq text (codes "stop")

-- a step after that of row i, by the row that has its name first; rows count from 0, and steps from 1
abbrev pub later_step : ℕ → Option ℕ → Part Target
later_step i None = Err kinds.NoSuchName
later_step i (Some row) = if nat_le row i then Err kinds.BackwardJump else Ok (targets.Step (row + 1))

-- where a text leads from the step in row i
abbrev pub target_named : List Data → ℕ → List ℕ → Part Target
target_named rows i text =
    if bytes_eq text (codes "again") then Ok targets.Again
    else if bytes_eq text (codes "stop") then Ok targets.Stop
    else later_step i (position (is_called text) rows)

abbrev pub target_in : List Data → ℕ → Data → Part Target
target_in rows i (string text) = target_named rows i text
target_in rows i _ = Err kinds.WrongKind

abbrev pub on_in : Data → Part (List ℕ)
on_in (string text) = ok_or (pattern_in text) kinds.BadPattern
on_in _ = Err kinds.WrongKind

abbrev pub branch_keys : List (List ℕ)
branch_keys = codes "on" ∷ codes "to" ∷ []

abbrev pub branch_value : List ℕ → Target → Branch
branch_value on to = record { on = on; to = to }

-- the branch that a table gives, key by key, or its first kind of fault
unfoldable pub table_branch : List Data → ℕ → Members → Part Branch
table_branch rows i ms =
    if only_keys branch_keys ms
    then Ok branch_value <*> must ms (codes "on") on_in <*> must ms (codes "to") (target_in rows i)
    else Err kinds.UnknownKey

-- a branch of the step in row i
abbrev pub branch_in : List Data → ℕ → Data → Part Branch
branch_in rows i (table ms) = table_branch rows i ms
branch_in rows i _ = Err kinds.WrongKind

-- not too many branches
abbrev pub branches_in : List Data → ℕ → Data → Part (List Branch)
branches_in rows i d = entries_of d >>= each (branch_in rows i) >>= at_most MAX_BRANCHES

-- ---- what a step sends

-- the signer has the name
abbrev pub is_signer_named : List ℕ → Signer → Bool
is_signer_named name signer = bytes_eq name signer.name

-- the place, from 0 on, of the first signer of the name
abbrev pub place_of_signer : List Signer → List ℕ → Option ℕ
place_of_signer signers name = position (is_signer_named name) signers

-- an entry of `signers` is the name of one
abbrev pub signature_in : List Signer → Data → Part ℕ
signature_in signers (string name) = ok_or (place_of_signer signers name) kinds.NoSuchName
signature_in signers _ = Err kinds.WrongKind

-- some segments, and not too many
abbrev pub segments_in : List NamedField → Data → Part (List Template)
segments_in fields d = entries_of d >>= not_empty >>= each (segment_in fields) >>= at_most MAX_SEGMENTS

-- not too many signers
abbrev pub signatures_in : List Signer → Data → Part (List ℕ)
signatures_in signers d = entries_of d >>= each (signature_in signers) >>= at_most MAX_SIGNATURES

-- a step is sealed only where the script has a seal
abbrev pub with_seal : Bool → Bool → Part Bool
with_seal has_seal sealed = if sealed && not has_seal then Err kinds.Missing else Ok sealed

abbrev pub sealed_in : Bool → Data → Part Bool
sealed_in has_seal d = flag_in d >>= with_seal has_seal

-- ---- its limits

-- the weight of the signer at a place among those of the script
abbrev pub signature_weight : List FieldWeight → List Signer → ℕ → ℕ
signature_weight figures signers place = option_map_or (signer_weight figures) (slice_get signers place) 0

abbrev pub seal_weight : List FieldWeight → Bool → Option (List (List TemplateItem)) → ℕ
seal_weight figures true (Some seal) = segment_weight figures seal
seal_weight figures _ _ = 0

-- the weight of its segments, of its signers' two each, and of the seal if it is sealed
abbrev pub step_weight : Surroundings → StepValue → ℕ
step_weight around step =
    total (λ (t : Template). segment_weight around.figures t.elements) step.templates
    + (total (signature_weight around.figures around.signers) step.signers
    + seal_weight around.figures step.sealed around.seal)

-- some segment has more items than it may
abbrev pub has_large_segment : List FieldWeight → List Template → Bool
has_large_segment figures templates =
    list_any (λ (t : Template). nat_lt MAX_TEMPLATE_ITEMS (most_items figures t.elements)) templates

-- a segment has too many items, or the step is too heavy
abbrev pub is_too_large : Surroundings → StepValue → Bool
is_too_large around step =
    has_large_segment around.figures step.templates || nat_lt MAX_WEIGHT (step_weight around step)

-- ---- the whole step

abbrev pub step_keys : List (List ℕ)
step_keys =
    codes "name" ∷ codes "segments" ∷ codes "sealed" ∷ codes "signers" ∷ codes "repeat" ∷ codes "branches"
    ∷ codes "default" ∷ []

-- a word, or the name of an earlier row
abbrev pub is_taken_step : List Data → ℕ → List ℕ → Bool
is_taken_step rows i name = is_word name || list_any (is_called name) (take i rows)

abbrev pub step_value : List ℕ → List Template → Bool → List ℕ → ℕ → List Branch → Target → StepValue
step_value name templates sealed signers repeat branches otherwise =
    record {
      name = name;
      templates = templates;
      sealed = sealed;
      signers = signers;
      repeat = repeat;
      branches = branches;
      otherwise = otherwise;
    }

-- a step of a size that it may have
abbrev pub sized_step : Surroundings → StepValue → Part StepValue
sized_step around step = if is_too_large around step then Err kinds.Limit else Ok step

-- the step that a table gives, key by key, or its first kind of fault; without a default, an answer that no
-- branch matches ends the run
unfoldable pub table_step : Surroundings → ℕ → Members → Part StepValue
table_step around i ms =
    if only_keys step_keys ms then
    Ok step_value
    <*> row_name (is_taken_step around.rows i) ms
    <*> must ms (codes "segments") (segments_in around.fields)
    <*> may ms (codes "sealed") false (sealed_in (is_some around.seal))
    <*> may ms (codes "signers") [] (signatures_in around.signers)
    <*> may ms (codes "repeat") 1 (integer_in 1 MAX_REPEAT)
    <*> may ms (codes "branches") [] (branches_in around.rows i)
    <*> may ms (codes "default") targets.Stop (target_in around.rows i)
    else Err kinds.UnknownKey

-- the step in row i, of a size that it may have
abbrev pub step_in : Surroundings → ℕ → Data → Part StepValue
step_in around i (table ms) = table_step around i ms >>= sized_step around
step_in around i _ = Err kinds.WrongKind
