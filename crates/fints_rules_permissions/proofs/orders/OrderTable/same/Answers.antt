use Rattle.std.proofs.Common.{◌≡◌, ◌∙◌, sym, refl, ap}
use Rattle.std.proofs.lemmas.Bool.Decides.{Decides-and}
use Rattle.std.specs.Bool.{Decides}
use Rattle.std.specs.Cmp.{unsigned_Decides}
use Rattle.std.specs.Cmp.Lexicographic.{pointwise_decides, bytes_decides}
use Rattle.fints_rules_permissions.specs.declared.orders.OrderRow.{OrderRow}
use Rattle.fints_rules_permissions.specs.declared.orders.AccountForm.{AccountForm}
use Rattle.fints_rules_permissions.specs.declared.orders.AccountForm.TheVariants.{Nameless, National, International}
use Rattle.fints_rules_permissions.specs.contracts.orders.OrderRowPartialEq.TheImpl.{eq-value}
use Rattle.fints_rules_permissions.specs.contracts.orders.AccountFormPartialEq.TheImpl.{eq-value as form_eq}
use Rattle.fints_rules_permissions.proofs.orders.OrderTable.same.Goals as goal

form_decides : (x y : AccountForm) → Decides (form_eq.it x y) (x ≡ y)
form_decides Nameless Nameless = (λ h. refl, λ h. refl)
form_decides Nameless National = (λ h. cc, λ e. cc)
form_decides Nameless International = (λ h. cc, λ e. cc)
form_decides National Nameless = (λ h. cc, λ e. cc)
form_decides National National = (λ h. refl, λ h. refl)
form_decides National International = (λ h. cc, λ e. cc)
form_decides International Nameless = (λ h. cc, λ e. cc)
form_decides International National = (λ h. cc, λ e. cc)
form_decides International International = (λ h. refl, λ h. refl)

row_decides : (a b : OrderRow) → Decides (eq-value.it a b) (a ≡ b)
row_decides a b =
    let d = Decides-and _ _ (bytes_decides a.kind b.kind) (Decides-and _ _ (unsigned_Decides a.version b.version) (form_decides a.form b.form)) in (
      λ h.
          let p = d.0 h in λ i.
          record { kind = p.0 i; version = p.1.0 i; form = p.1.1 i },
      λ e.
          d.1 (
            ap (λ (r : OrderRow). r.kind) e,
            (ap (λ (r : OrderRow). r.version) e, ap (λ (r : OrderRow). r.form) e),
          ),
    )

pub returns : goal.returns
returns c =
    let lists = pointwise_decides row_decides c.self.inside.rows.items c.other.inside.rows.items in
    (λ h. sym c.self.view_is ∙ lists.0 (sym c.eq.ensures ∙ h) ∙ c.other.view_is, λ e. c.eq.ensures ∙ lists.1 (c.self.view_is ∙ e ∙ sym c.other.view_is))
