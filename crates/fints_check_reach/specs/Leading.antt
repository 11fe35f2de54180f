-- Where the answers to a step's messages lead.
use Rattle.fints_script_cases.specs.Answers.{CanLead}
use Rattle.fints_script_cases.specs.declared.answers.Target.{Target}
use Rattle.fints_script.specs.Steps.{StepValue}

-- some answer to the step leads to this target
abbrev pub Leads : StepValue → Target → Type 0
Leads step to = CanLead step.branches step.otherwise to
