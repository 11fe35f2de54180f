use Rattle.std.proofs.Common.{◌++◌}
use Rattle.std.specs.Prelude.{codes, decimal}
use Rattle.fints_cli_drafts_texts.proofs.ChainLemmas.{more}
use Rattle.fints_cli_drafts_texts.proofs.notes.write_count.Goals as goal

pub returns : goal.returns
returns c =
    let old = c.args.text.now.items in
    more old (codes "  # Left out of its accounts: " ++ decimal c.args.count) (c.args.end.now) c.write_number.new.text.items c.extend_from_slice-2.new.self.items (more old (codes "  # Left out of its accounts: ") (decimal c.args.count) c.extend_from_slice.new.self.items c.write_number.new.text.items (c.in_ok-extend_from_slice.ensures.items) c.in_ok-write_number.ensures) c.in_ok-extend_from_slice-2.ensures.items
