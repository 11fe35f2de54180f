use Rattle.std.proofs.Common.{◌++◌}
use Rattle.std.specs.Prelude.{codes}
use Rattle.std.specs.List.{flat_map}
use Rattle.fints_cli_drafts_texts.specs.DraftText.{account_line}
use Rattle.fints_cli_drafts_texts.proofs.ChainLemmas.{more}
use Rattle.fints_cli_drafts_texts.proofs.fields.write_account_list.Goals as goal

pub returns : goal.returns
returns c =
    let old = c.args.text.now.items in
    more old (codes "values = [\n" ++ flat_map account_line c.args.accounts.now) (codes "]\n") c.write_accounts.new.text.items c.extend_from_slice-2.new.self.items
    (more old (codes "values = [\n") (flat_map account_line c.args.accounts.now) c.extend_from_slice.new.self.items c.write_accounts.new.text.items
    (c.in_ok-extend_from_slice.ensures.items) c.in_ok-write_accounts.ensures) c.in_ok-extend_from_slice-2.ensures.items
