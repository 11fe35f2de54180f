use Rattle.std.proofs.Common.{◌∙◌, sym}
use Rattle.fints_check_findings.proofs.Chosen.{value_more}
use Rattle.fints_check_findings.proofs.Lists.{there_of}
use Rattle.fints_check_findings.proofs.choosing.values_with.Goals as goal

pub loop-i-preserved : goal.loop-i-preserved
loop-i-preserved c field account there listed =
    c.in_ok-push_value.ensures
    ∙ value_more c.args.fields.now c.args.set field account there listed c.loop-i.i c.index-fields-i.result
    c.account_of.result c.loop-i.values
    (there_of c.args.fields.now c.loop-i.i c.index-fields-i.result c.loop-i-test.true
    (sym c.index-fields-i.is))
    c.account_of.ensures (c.loop-i.invariant field account there listed)
