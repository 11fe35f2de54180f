use Rattle.fints_script.proofs.LawLemmas.{read_is_sound}
use Rattle.fints_script.proofs.laws.read_is_sound.Goals as goal

pub returns : goal.returns
returns c = read_is_sound
