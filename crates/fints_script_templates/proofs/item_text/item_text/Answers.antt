use Rattle.fints_script_templates.proofs.ItemTextLemmas.{unmarked}
use Rattle.fints_script_templates.proofs.item_text.item_text.Goals as goal

pub returns-in-None : goal.returns-in-None
unfolding lib.Utf8.encode
returns-in-None c = unmarked c.args.text.now c.in_default.ensures.cases c.in_default-strip_prefix.ensures.cases c.in-None.ensures.cases
