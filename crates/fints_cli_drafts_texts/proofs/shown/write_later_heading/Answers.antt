use Rattle.std.proofs.Common.{◌++◌}
use Rattle.std.specs.Prelude.{codes, decimal}
use Rattle.fints_cli_drafts_texts.proofs.ChainLemmas.{more}
use Rattle.fints_cli_drafts_texts.proofs.shown.write_later_heading.Goals as goal

pub returns : goal.returns
returns c =
    let old = c.args.text.now.items in
    more old (codes "  # element " ++ decimal c.args.element ++ codes ", item " ++ decimal c.args.item) (codes ":\n") c.write_number-2.new.text.items c.extend_from_slice-3.new.self.items
    (more old (codes "  # element " ++ decimal c.args.element ++ codes ", item ") (decimal c.args.item) c.extend_from_slice-2.new.self.items c.write_number-2.new.text.items
    (more old (codes "  # element " ++ decimal c.args.element) (codes ", item ") c.write_number.new.text.items c.extend_from_slice-2.new.self.items
    (more old (codes "  # element ") (decimal c.args.element) c.extend_from_slice.new.self.items c.write_number.new.text.items
    (c.in_ok-extend_from_slice.ensures.items) c.in_ok-write_number.ensures) c.in_ok-extend_from_slice-2.ensures.items) c.in_ok-write_number-2.ensures) c.in_ok-extend_from_slice-3.ensures.items
