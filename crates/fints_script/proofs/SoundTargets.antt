-- Where the targets of a read script lead.
use Rattle.std.proofs.Common.{◌≡◌, ℕ, ◌+◌, ◌<◌, false, codes, List, length, Option, Some, None, Ok, refl, subst, inl, inr, arith}
use Rattle.std.specs.Prelude.{nat_le, position}
use Rattle.std.specs.Str.{bytes_eq}
use Rattle.std.proofs.lemmas.Bool.Decides.{nat_tests}
use Rattle.toml.specs.Data.{Data, string, table, Members}
use Rattle.fints_script_cases.specs.declared.answers.Branch.{Branch}
use Rattle.fints_script_cases.specs.declared.answers.Target.{Target}
use Rattle.fints_script_cases.specs.declared.answers.Target.TheVariants as targets
use Rattle.fints_syntax_texts.specs.Document.{only_keys}
use Rattle.fints_syntax_texts.specs.Entries.{is_called}
use Rattle.fints_script_rows.specs.PartLaws.{bind_ok, choice_ok, next_ok}
use Rattle.fints_script_rows.specs.Parts.{required}
use Rattle.fints_script_rows.specs.declared.fault.FaultKind.TheVariants as kinds
use Rattle.fints_script.specs.Steps.{branch_in, branch_keys, branch_value, later_step, table_branch, target_in, target_named}
use Rattle.fints_script.specs.Sound.{IsOnward}
use Rattle.fints_script.proofs.ReadParts.{failed, passed, same_ok}
use Rattle.fints_script.proofs.SoundElements.{place_within}

-- the step in row i
module _ (rows : List Data) (i : ℕ) where
  later_onward : (o : Option ℕ) (target : Target) → ((row : ℕ) → o ≡ Some row → row < length rows)
      → later_step i o ≡ Ok target → IsOnward (length rows) (i + 1) target
  later_onward None target within e = absurd cc
  later_onward (Some row) target within e =
      let behind = failed (nat_le row i) (Ok (targets.Step (row + 1))) kinds.BackwardJump target e in
      let later : nat_le row i ≡ false = behind.0 in
      let inside = within row refl in
      subst (IsOnward (length rows) (i + 1)) (same_ok (targets.Step (row + 1)) target behind.1) (grind (arith, nat_tests), omega (arith, inside))

  text_onward : (text : List ℕ) (target : Target) → target_named rows i text ≡ Ok target
      → IsOnward (length rows) (i + 1) target
  text_onward text target e = elim (choice_ok (bytes_eq text (codes "again")) (Ok targets.Again) _ target e) [
    | inl again ↦ subst (IsOnward (length rows) (i + 1)) (same_ok targets.Again target again.1) tt
    | inr other ↦ elim (choice_ok (bytes_eq text (codes "stop")) (Ok targets.Stop) (later_step i (position (is_called text) rows)) target other.1) [
      | inl stop ↦ subst (IsOnward (length rows) (i + 1)) (same_ok targets.Stop target stop.1) tt
      | inr name ↦ later_onward (position (is_called text) rows) target (place_within (is_called text) rows) name.1
    ]
  ]

  pub target_onward : (d : Data) (target : Target) → target_in rows i d ≡ Ok target
      → IsOnward (length rows) (i + 1) target
  target_onward (string text) target e = text_onward text target e
  target_onward _ target e = absurd cc

  members_onward : (ms : Members) (branch : Branch) → table_branch rows i ms ≡ Ok branch
      → IsOnward (length rows) (i + 1) branch.to
  unfolding table_branch
  members_onward ms branch e =
      let table = passed (only_keys branch_keys ms) _ kinds.UnknownKey branch e in
      let to = next_ok _ _ branch table.1 in
      let on = next_ok _ _ to.0 to.2 in
      let first = same_ok branch_value on.0 on.2 in
      let is : branch_value on.1 to.1 ≡ branch = cc in
      let target = bind_ok (required (codes "to") ms) (target_in rows i) to.1 to.3 in
      subst (λ (b : Branch). IsOnward (length rows) (i + 1) b.to) is (target_onward target.0 to.1 target.2)

  pub branch_onward : (d : Data) (branch : Branch) → branch_in rows i d ≡ Ok branch
      → IsOnward (length rows) (i + 1) branch.to
  branch_onward (table ms) branch e = members_onward ms branch e
  branch_onward _ branch e = absurd cc
