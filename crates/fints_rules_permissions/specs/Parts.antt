-- A part of permissions, which is held or shared. Only private contracts and the model of `Permissions` use this file.
use Rattle.fints_rules_permissions.specs.declared.permissions.HeldOrShared.{HeldOrShared}
use Rattle.fints_rules_permissions.specs.declared.permissions.HeldOrShared.TheVariants.{Held, Shared}

abbrev pub part_in : {T : Type 0} → HeldOrShared T → T
part_in (Held part) = part
part_in (Shared part) = part.now
