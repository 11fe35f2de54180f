use Rattle.std.proofs.Common.{subst, sym, ◌∙◌, ◌++◌, drop, replicate, length, ℕ, List}
use Rattle.fints_script_fields.specs.NameFields.{IsPadded}
use Rattle.fints_script_fields.proofs.Paddings.{padded}
use Rattle.fints_script_fields.proofs.name.Name.parse.Goals as goal

pub invariant_of-result : goal.invariant_of-result
invariant_of-result c =
    subst
    (λ (bytes : List ℕ).
    IsPadded
    (record {
      bytes = bytes ++ drop (length c.args.text.now) (replicate 40 0);
      len = length c.args.text.now;
    }))
    (sym c.copy_from_slice.ensures.after)
    (padded c.args.text.now (sym c.is_name.ensures ∙ c.if-not-is_name.false))
