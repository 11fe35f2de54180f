use Rattle.fints_check_reach.proofs.LawLemmas.{followed_where_carried}
use Rattle.fints_check_reach.proofs.laws.followed_where_carried.Goals as goal

pub returns : goal.returns
returns c = followed_where_carried
