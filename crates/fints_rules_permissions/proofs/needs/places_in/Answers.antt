use Rattle.std.proofs.Common.{[]}
use Rattle.fints_params.specs.declared.rows.AccountRow.{AccountRow}
use Rattle.fints_rules_permissions.proofs.NeedLemmas.{rows_more}
use Rattle.fints_rules_permissions.proofs.needs.places_in.Goals as goal

pub loop-row-preserved : goal.loop-row-preserved
loop-row-preserved c =
    let none : AccountRow = record { national = record { number = []; subaccount = []; country = []; bank = [] }; iban = []; entries = [] } in
    rows_more c.args.rows.now c.loop-row.row none c.loop-row.places.items c.add_row.new.places.items
    c.loop-row-test.true (c.in_ok-add_row.ensures none) c.loop-row.invariant
