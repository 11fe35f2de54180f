use Rattle.fints_cli_records.proofs.NoteLemmas.{three_parts}
use Rattle.fints_cli_records.proofs.recording.write_forms.Goals as goal

pub returns : goal.returns
returns c =
    three_parts _ _ _ _ _ _ _ c.write_count-3.result c.in_ok-write_count.ensures c.in_ok-write_count-2.ensures
    c.write_count-3.ensures
