use Rattle.fints_cli_records.proofs.NoteLemmas.{then_forms}
use Rattle.fints_cli_records.proofs.recording.write_messages.Goals as goal

pub returns : goal.returns
returns c =
    then_forms _ _ _ _ c.write_forms.result c.args.messages.now c.count_of-raw.result c.count_of-utf8.result
    c.count_of-base64.result c.count_of-raw.ensures c.count_of-utf8.ensures c.count_of-base64.ensures
    c.in_ok-write_count.ensures c.write_forms.ensures
