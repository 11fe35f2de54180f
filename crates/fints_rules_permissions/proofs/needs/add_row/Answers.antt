use Rattle.std.proofs.Common.{map, length, get_or, ◌<◌, subst}
use Rattle.std.proofs.lemmas.List.{get_or_default}
use Rattle.fints_params.specs.declared.rows.AccountRow.{AccountRow}
use Rattle.fints_rules_permissions.specs.Needs.{seen_at}
use Rattle.fints_rules_permissions.proofs.NeedLemmas.{row_more}
use Rattle.fints_rules_permissions.proofs.needs.add_row.Goals as goal

pub loop-entry-preserved : goal.loop-entry-preserved
loop-entry-preserved c none =
    let same = get_or_default c.args.rows.now c.args.row c.index-rows-row.result none c.requires in
    let within : c.loop-entry.entry < length (get_or c.args.rows.now c.args.row none).entries =
    subst (λ (r : AccountRow). c.loop-entry.entry < length r.entries) same
    (subst (λ l. c.loop-entry.entry < length l) c.as_slice-entry-end.ensures c.loop-entry-test.true) in
    row_more c.args.rows.now c.args.row c.loop-entry.entry none c.loop-entry.places.items
    c.push.new.self.items c.push-in-loop-entry.new.self.items
    (map (seen_at c.args.rows.now) c.args.places.now.items) c.requires within c.in_ok-push.ensures.items
    c.in_ok-push-2.ensures.items (c.loop-entry.invariant none)
