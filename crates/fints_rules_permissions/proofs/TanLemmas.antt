-- The test of a version that takes one order at a time, and what it says.
use Rattle.std.proofs.Common.{◌≡◌, ℕ, Bool, true, false, not, ◌&&◌, ◌==◌, List, refl, sym, ◌∙◌, arith}
use Rattle.std.specs.Prelude.{Any, IsTrue, ◌↔◌}
use Rattle.std.specs.List.{list_any}
use Rattle.std.proofs.lemmas.Bool.Decides.{nat_tests}
use Rattle.std.proofs.lemmas.List.Folds.{Any-from_list_any, list_any-from_Any}
use Rattle.fints_params.specs.declared.rows.TanRow.{TanRow}
use Rattle.fints_rules_permissions.specs.Tans.{takes_one}

same_number : (m n : ℕ) → (m == n) ≡ true → m ≡ n
same_number m n h = grind (arith, nat_tests)

same_test : (m n : ℕ) → m ≡ n → (m == n) ≡ true
same_test m n h = grind (arith, nat_tests)

row_test : (version : ℕ) (row : TanRow)
    → IsTrue (takes_one version row) ↔ (row.version ≡ version) × (row.several ≡ false)
row_test version row =
    by_test (row.version == version) row.several
    (same_number row.version version, same_test row.version version)
  where
    by_test : (b s : Bool) → IsTrue b ↔ (row.version ≡ version)
        → IsTrue (b && not s) ↔ (row.version ≡ version) × (s ≡ false)
    by_test true true d =
        (λ h. let no_match : false ≡ true = h in cc, λ h. let no_match : true ≡ false = h.1 in cc)
    by_test true false d = (λ h. (d.0 refl, refl), λ h. refl)
    by_test false s d =
        (λ h. let no_match : false ≡ true = h in cc, λ h. let no_match : false ≡ true = d.1 h.0 in cc)

pub takes_one_any : (rows : List TanRow) (version : ℕ) (b : Bool) → b ≡ list_any (takes_one version) rows
    → IsTrue b ↔ Any (λ row. (row.version ≡ version) × (row.several ≡ false)) rows
takes_one_any rows version b is = (
  λ h.
      let (k, row, lt, at, t) = Any-from_list_any (takes_one version) rows (sym is ∙ h) in
      (k, row, lt, at, (row_test version row).0 t),
  λ (k, row, lt, at, t).
      is ∙ list_any-from_Any (takes_one version) rows (k, row, lt, at, (row_test version row).1 t),
)
