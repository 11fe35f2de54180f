-- What the kinds of a step's templates show. Only private contracts and, by Releases, the invariant of Report cite these words.
use Rattle.std.specs.Prelude.{codes, ◌≡◌, ◌≤◌, ℕ, Bool, not, ◌&&◌, List, length, map, filter, count_by, slice_get, slice_index, Some}
use Rattle.std.specs.List.{list_any}
use Rattle.std.specs.Str.{bytes_eq}
use Rattle.fints_params.specs.declared.rows.PinRow.{PinRow}
use Rattle.fints_rules_permissions.specs.Kinds.{is_plain_order, is_tan_order}
use Rattle.fints_rules_permissions.specs.Permits.{is_demanding}
use Rattle.fints_script_templates.specs.declared.template.Template.{Template}

abbrev pub has_kind : List ℕ → Template → Bool
has_kind kind t = bytes_eq t.kind kind

-- the kinds of the orders other than HKTAN, one for each such order
abbrev pub template_kinds : List Template → List (List ℕ)
template_kinds ts = filter is_plain_order (map (λ (t : Template). t.kind) ts)

-- an order other than HKTAN, of a kind that none of those after it has
abbrev pub is_last_of_kind : Template → List Template → Bool
is_last_of_kind t behind = is_plain_order t.kind && not (list_any (has_kind t.kind) behind)

-- how many of them have the kind, in any version
abbrev pub template_count : List ℕ → List Template → ℕ
template_count kind ts = count_by (has_kind kind) ts

-- beside each of them how many have its kind
pub record AreCounts (ts : List Template) (counts : List ℕ) : Type 0 where
  pub enough : length ts ≤ length counts
  pub each : (i : ℕ) (t : Template) → slice_get ts i ≡ Some t
      → slice_index counts i ≡ template_count t.kind ts

-- how many of them are orders other than HKTAN that are listed with J
abbrev pub demanding_count : List PinRow → List Template → ℕ
demanding_count pins ts = count_by (λ (t : Template). is_demanding pins t.kind) ts

-- HKTAN, in any version
abbrev pub is_tan_segment : Template → Bool
is_tan_segment t = is_tan_order t.kind

-- HKEND, in any version
abbrev pub is_end : Template → Bool
is_end t = bytes_eq t.kind (codes "HKEND")
