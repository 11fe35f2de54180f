-- Kinds that are listed with J.
use Rattle.std.proofs.Common.{◌≡◌, ℕ, Bool, true, false, ◌&&◌, List, refl}
use Rattle.std.specs.Prelude.{IsTrue, ◌↔◌}
use Rattle.std.specs.Str.{bytes_eq}
use Rattle.std.proofs.lemmas.List.Folds.{Any-from_list_any, list_any-from_Any}
use Rattle.std.proofs.lemmas.Slice.Eq.{bytes_eq-Decides}
use Rattle.fints_params.specs.declared.rows.PinRow.{PinRow}
use Rattle.fints_rules_permissions.specs.Permits.{IsListedKind, IsListedWithTan, is_listed_with_tan}

pin_test : (kind : List ℕ) (pin : PinRow)
    → IsTrue (bytes_eq pin.kind kind && pin.tan) ↔ (pin.kind ≡ kind) × (pin.tan ≡ true)
pin_test kind pin = by_test (bytes_eq pin.kind kind) pin.tan (bytes_eq-Decides pin.kind kind)
  where
    by_test : (b t : Bool) → IsTrue b ↔ (pin.kind ≡ kind) → IsTrue (b && t) ↔ (pin.kind ≡ kind) × (t ≡ true)
    by_test true t d = (λ h. (d.0 refl, h), λ h. h.1)
    by_test false t d = (λ h. let no_match : false ≡ true = h in cc, λ h. let no_match : false ≡ true = d.1 h.0 in cc)

pub listed_with_tan : (pins : List PinRow) (kind : List ℕ)
    → IsTrue (is_listed_with_tan pins kind) ↔ IsListedWithTan pins kind
listed_with_tan pins kind = (
  λ h. let (k, pin, lt, at, t) = Any-from_list_any (λ (pin : PinRow). bytes_eq pin.kind kind && pin.tan) pins h in (k, pin, lt, at, (pin_test kind pin).0 t),
  λ (k, pin, lt, at, t). list_any-from_Any (λ (pin : PinRow). bytes_eq pin.kind kind && pin.tan) pins (k, pin, lt, at, (pin_test kind pin).1 t),
)

pub not_listed : (pins : List PinRow) (kind : List ℕ) → (IsListedKind pins kind → ⊥)
    → IsListedWithTan pins kind → ⊥
not_listed pins kind none (k, pin, lt, at, h) = none (k, pin, lt, at, h.0)

pub not_listed_with_tan : (pins : List PinRow) (kind : List ℕ) → (IsListedWithTan pins kind → ⊥)
    → false ≡ is_listed_with_tan pins kind
not_listed_with_tan pins kind none = by_test (is_listed_with_tan pins kind) (listed_with_tan pins kind)
  where
    by_test : (b : Bool) → IsTrue b ↔ IsListedWithTan pins kind → false ≡ b
    by_test true d = absurd (none (d.0 refl))
    by_test false d = refl
