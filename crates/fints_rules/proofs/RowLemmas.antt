-- The rows of an order's kind and version.
use Rattle.std.proofs.Common.{◌≡◌, ◌≢◌, ℕ, ◌<◌, ◌≤◌, Bool, true, false, not, List, [], length, Option, Some, None, refl, ap, ◌∙◌, sym, arith, inl, inr}
use Rattle.std.specs.Prelude.{Any, is_some, IsTrue, ◌↔◌}
use Rattle.std.proofs.lemmas.List.Elements.{All-contains}
use Rattle.fints_params.specs.Parameters.{Rows}
use Rattle.fints_params.specs.declared.rows.OrderParam.{OrderParam}
use Rattle.fints_rules_permissions.specs.declared.limits.Limits.{Limits}
use Rattle.fints_rules_permissions.specs.Permits.{params_of, LimitsAre, IsLimits}
use Rattle.fints_rules_permissions.specs.Kinds.{own_version}
use Rattle.fints_rules.specs.Rules.{BreaksVersion}
use Rattle.fints_rules.specs.SegmentFacts.{SegmentFactsValue}

-- ---- some element

any_weaker : {X : Type 0} (P Q : X → Type 0) → ((x : X) → P x → Q x) → (xs : List X) → Any P xs → Any Q xs
any_weaker P Q f xs (k, y, lt, at, h) = (k, y, lt, at, f y h)

-- ---- the rows for a segment

abbrev rows_for : SegmentFactsValue → List OrderParam → List OrderParam
rows_for s rows = params_of s.kind s.version rows

pub none_among : (P : OrderParam → Type 0) (s : SegmentFactsValue) (rows : List OrderParam)
    → rows_for s rows ≡ [] → Any P (rows_for s rows) → ⊥
none_among P s rows none (k, row, lt, at, h) = omega (arith, ap length none)

-- P5 of an order
pub version_of_order : (rows : Rows) (s : SegmentFactsValue) (limits : Option Limits) (r : Bool)
    → None ≡ own_version s.kind → LimitsAre (rows_for s rows.orders) limits → is_some limits ≡ not r
    → IsTrue r ↔ BreaksVersion rows s
version_of_order rows s None true own h is = (λ _. inr (ap (λ o. not (is_some o)) (sym own), h), λ _. refl)
version_of_order rows s None false own h is = cc
version_of_order rows s (Some l) true own h is = cc
version_of_order rows s (Some l) false own h is = (
  λ h. let no_match : false ≡ true = h in cc,
  λ b. elim b [
    | inl v ↦ let both : None ≡ Some v.0 = own ∙ v.1 in cc
    | inr o ↦ absurd (none_among (λ row. row.signatures ≡ l.signatures) s rows.orders o.1 h.signatures.some)
  ],
)

-- P6
abbrev AllowsFewer : ℕ → OrderParam → Type 0
AllowsFewer n row = (row.orders ≢ 0) × (row.orders < n)

pub limit_allows : (s : SegmentFactsValue) (rows : List OrderParam) (n : ℕ) (l : Limits)
    → IsLimits (rows_for s rows) l → (l.orders ≢ 0) × (l.orders < n) ↔ Any (AllowsFewer n) (rows_for s rows)
limit_allows s rows n l h = (
  λ (ne, lt). any_weaker (λ row. row.orders ≡ l.orders) (AllowsFewer n) (λ row is. (λ e. ne (sym is ∙ e), omega arith)) (rows_for s rows) (h.orders.some ne),
  λ (k, row, lt, at, (ne, less)).
      let least = All-contains (λ r. r.orders ≢ 0 → (l.orders ≢ 0) × (l.orders ≤ r.orders)) (rows_for s rows) row h.orders.least (k, lt, at) in
      let both = least ne in (both.0, omega (arith, both.1)),
)
