use Rattle.std.proofs.Common.{◌∙◌}
use Rattle.fints_rules.proofs.ViewLemmas.{six_whole}
use Rattle.fints_rules.proofs.leading.Leading.values.Goals as goal

pub returns : goal.returns
returns c =
    rw (
      c.as_slice.ensures,
      c.as_slice-2.ensures,
      c.as_slice-3.ensures,
      c.as_slice-4.ensures,
      c.as_slice-5.ensures,
      c.as_slice-6.ensures,
    )
    (six_whole c.self.inside.values _ _ _ _ _ _ c.self.told ∙ c.self.view_is)
