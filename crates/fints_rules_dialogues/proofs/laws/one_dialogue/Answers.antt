use Rattle.fints_rules_dialogues.proofs.OneDialogue.{no_dialogue_at_fault, one_dialogue, one_dialogue_fault}
use Rattle.fints_rules_dialogues.proofs.laws.one_dialogue.Goals as goal

pub returns-clause-dialogue : goal.returns-clause-dialogue
returns-clause-dialogue c = one_dialogue

pub returns-clause-refusal : goal.returns-clause-refusal
returns-clause-refusal c = one_dialogue_fault

pub returns-clause-not_both : goal.returns-clause-not_both
returns-clause-not_both c = no_dialogue_at_fault
