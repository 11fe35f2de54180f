-- The laws, each with its proof, for the proofs of the crates above.
use Rattle.fints_check_reach.specs.Laws.{AtMostAllAreLookedAt, ClosedNumbersBound, FollowedWhereCarried, GreatestAreClosed, ReachedAreLookedAt}
use Rattle.fints_check_reach.proofs.Bounds.{closed_bound}
use Rattle.fints_check_reach.proofs.Scripts.{script_of}
use Rattle.fints_check_reach.proofs.Closing.{greatest_closed}
use Rattle.fints_check_reach.proofs.Visits.{at_least, at_most}
use Rattle.fints_check_reach.proofs.Followed.{follow, followed}
use Rattle.fints_wire.proofs.RunLawLemmas.{runs_by_steps, visits_are_repeated}

pub closed_numbers_bound : ClosedNumbersBound
closed_numbers_bound script numbers v sound closed run = closed_bound script.steps numbers (script_of script sound) (runs_by_steps script.steps) closed v run

pub greatest_are_closed : GreatestAreClosed
greatest_are_closed script numbers sound greatest = greatest_closed script.steps numbers (script_of script sound) (runs_by_steps script.steps) greatest

pub visits_are_bounded_most : AtMostAllAreLookedAt
visits_are_bounded_most = at_most

pub visits_are_bounded_least : ReachedAreLookedAt
visits_are_bounded_least = at_least

pub followed_where_carried : FollowedWhereCarried
followed_where_carried script t code s step sound at = (
  followed script.steps t code s step at (λ v arrives. (visits_are_repeated script v sound arrives).some),
  follow script.steps t code s step at,
)
