-- What is seen of a field is all of it.
use Rattle.std.proofs.Common.{◌≡◌, List, ℕ, ap, ◌∙◌}
use Rattle.fints_script_rows.specs.Fields.{class_value, field_value}
use Rattle.fints_script_rows.specs.declared.fields.NamedField.{NamedField}
use Rattle.fints_script_fields.specs.declared.counted.Bin.{Bin}
use Rattle.fints_script_fields.specs.declared.counted.Text.{Text}
use Rattle.fints_script_fields.specs.declared.listing.Account.{Account}
use Rattle.fints_script_fields.specs.declared.listing.OneOf.{OneOf}
use Rattle.fints_script_fields.specs.declared.field.Field.{Field}
use Rattle.fints_script_fields.specs.declared.field.Field.TheVariants as fields

-- the classes are given by their alphabets and bounds, or by their listed values
pub record GivenClasses : Type 0 where
  pub text : (c d : Text) → c.alphabet ≡ d.alphabet → c.min ≡ d.min → c.max ≡ d.max → c ≡ d
  pub bin : (c d : Bin) → c.min ≡ d.min → c.max ≡ d.max → c ≡ d
  pub oneof : (c d : OneOf) → c.values ≡ d.values → c ≡ d
  pub account : (c d : Account) → c.values ≡ d.values → c ≡ d

module _ (given : GivenClasses) where
  one_class : (f g : Field) → class_value f ≡ class_value g → f ≡ g
  one_class (fields.Text c) (fields.Text d) e = ap fields.Text (given.text c d (cc) (cc) (cc))
  one_class (fields.Bin c) (fields.Bin d) e = ap fields.Bin (given.bin c d (cc) (cc))
  one_class (fields.OneOf c) (fields.OneOf d) e = ap fields.OneOf (given.oneof c d (cc))
  one_class (fields.Account c) (fields.Account d) e = ap fields.Account (given.account c d (cc))
  one_class _ _ e = absurd (cc)

  pub one_field : (f g : NamedField) → field_value f ≡ field_value g → f ≡ g
  one_field f g e =
      let name : f.name ≡ g.name = ap (λ p. p.0) e in
      let class : f.class ≡ g.class = one_class f.class g.class (ap (λ p. p.1) e) in
      let renamed : f ≡ record { name = g.name; class = f.class } = ap (λ (n : List ℕ). record { name = n; class = f.class }) name in
      renamed ∙ ap (λ (c : Field). record { name = g.name; class = c }) class
