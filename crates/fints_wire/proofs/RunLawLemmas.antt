-- The laws, each with its proof, for the proofs of the crates above.
use Rattle.std.specs.Prelude.{◌↔◌, List, []}
use Rattle.std.proofs.Common.{refl}
use Rattle.fints_script.specs.Scripts.{ScriptValue}
use Rattle.fints_script.specs.Sound.{IsSound}
use Rattle.fints_script.specs.Steps.{StepValue}
use Rattle.fints_wire.specs.Laws.{AnswerIsNotBoth, AnswerSendsOrEnds, AnswersLeadOnward, EachAnswerLeads, EachIsLast, EachIsLastAfter, FirstIsOfStepOne, LastMessagesAreOfVisits, LastTwoAreOfVisits, OneListOfVisits, OneRun, RoutesGrow, RoutesSend, RoutesSendBehind, SentAreRead, TimesAreCounted}
use Rattle.fints_wire.specs.Runs.{start, Arrives, Reach, RouteTo, IsRepeated, IsWithin}
use Rattle.fints_wire.specs.declared.dialogue.Visit.{Visit}
use Rattle.fints_wire.proofs.Running.{after_once}
use Rattle.fints_wire.proofs.Sending.{sent_once, sends_visit, visit_sends, route_sends, run_sends}
use Rattle.fints_wire.proofs.Reaching.{reach_from_run, run_from_reach, route_more}
use Rattle.fints_wire.proofs.Following.{run_leads, run_starts}
use Rattle.fints_wire.proofs.SentLemmas.{arrives_within, times_counted, run_read}
use Rattle.fints_wire.proofs.Repeating.{visit_repeated, answer_decides, not_both}
use Rattle.fints_wire.proofs.Onward.{answered_onward}
use Rattle.fints_wire.proofs.Behind.{two_are_last, route_sends_behind, run_sends_after}
use Rattle.fints_wire.proofs.LawLemmas.{messages_are_read}

pub one_run_visits : OneListOfVisits
one_run_visits = after_once

pub one_run_sent : OneRun
one_run_sent = sent_once

pub runs_by_steps : (steps : List StepValue) (v : Visit) → Arrives steps v ↔ Reach steps v
runs_by_steps steps v = (reach_from_run steps v, run_from_reach steps v)

pub each_answer_leads_first : FirstIsOfStepOne
each_answer_leads_first = run_starts

pub each_answer_leads_next : EachAnswerLeads
each_answer_leads_next = run_leads

pub visits_are_within : (script : ScriptValue) (v : Visit) → IsSound script → Arrives script.steps v
    → IsWithin script.steps v
visits_are_within = arrives_within

pub visits_are_repeated : (script : ScriptValue) (v : Visit) → IsSound script → Arrives script.steps v
    → IsRepeated script.steps v
visits_are_repeated = visit_repeated

pub answers_lead_onward : AnswersLeadOnward
answers_lead_onward = answered_onward

pub each_answer_decides_some : AnswerSendsOrEnds
each_answer_decides_some = answer_decides

pub each_answer_decides_not_both : AnswerIsNotBoth
each_answer_decides_not_both = not_both

pub times_are_counted : TimesAreCounted
times_are_counted = times_counted

pub last_messages : LastMessagesAreOfVisits
last_messages script values m sound = (sends_visit script values m, visit_sends script values m sound)

pub routes_grow_more : RoutesGrow
routes_grow_more = route_more

pub routes_send : RoutesSend
routes_send = route_sends

pub each_is_last : EachIsLast
each_is_last = run_sends

pub last_two_messages : LastTwoAreOfVisits
last_two_messages = two_are_last

pub routes_send_behind : RoutesSendBehind
routes_send_behind = route_sends_behind

pub each_is_last_after : EachIsLastAfter
each_is_last_after = run_sends_after

pub sent_are_read : SentAreRead
sent_are_read = run_read messages_are_read

pub routes_grow_first : (steps : List StepValue) → RouteTo steps [] start
routes_grow_first steps = record { each = tt; later = []; after = tt; last = refl; used = refl }
