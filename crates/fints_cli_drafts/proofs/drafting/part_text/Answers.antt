use Rattle.fints_cli_drafts.proofs.drafting.part_text.Goals as goal

pub returns-in-Err-clause-refused : goal.returns-in-Err-clause-refused
returns-in-Err-clause-refused c = c.refusal_of.ensures c.args.number
