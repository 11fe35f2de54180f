use Rattle.std.proofs.Common.{inr, refl}
use Rattle.fints_params.specs.Parameters.{fault_after}
use Rattle.fints_params.specs.Refused.{IsRefusedOf}
use Rattle.fints_rules_dialogues.proofs.OwnLemmas.{refused_else}
use Rattle.fints_rules_dialogues.proofs.own_params.told_in_sent.Goals as goal

pub returns-in_default : goal.returns-in_default
returns-in_default c =
    let refused = refused_else (IsRefusedOf fault_after c.args.sent.now.bytes.now) c.in-Err.fault c.in-Err.ensures.refused c.in_default.not-Memory in
    record { bank = tt; user = tt; refused = inr (refused, refl) }
