use Rattle.fints_script.proofs.LawLemmas.{denoted_is_sound}
use Rattle.fints_script.proofs.laws.denoted_is_sound.Goals as goal

pub returns : goal.returns
returns c = denoted_is_sound
