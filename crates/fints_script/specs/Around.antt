-- What a step rests on and consists of, as the reader has it. Only private contracts name these words.
use Rattle.std.specs.Prelude.{ℕ, Bool, List, map, option_map}
use Rattle.std.specs.declared.alloc.Global.{Global}
use Rattle.std.specs.Prelude.{Vec}
use Rattle.toml.specs.View.{view}
use Rattle.fints_script_cases.specs.declared.answers.Branch.{Branch}
use Rattle.fints_script_cases.specs.declared.answers.Target.{Target}
use Rattle.fints_script.specs.Scripts.{ScriptValue, Top as TopValue}
use Rattle.fints_script.specs.Steps.{StepValue, Surroundings, step_value}
use Rattle.fints_script.specs.declared.script.Body.{Body}
use Rattle.fints_script.specs.declared.top.Top.{Top}
use Rattle.fints_script_rows.specs.declared.fields.NamedField.{NamedField}
use Rattle.fints_script.specs.declared.around.Around.{Around}
use Rattle.fints_script_templates.specs.declared.template.Template.{Template}

abbrev pub surroundings_of : Around → Surroundings
surroundings_of a =
    record {
      fields = a.fields.now;
      figures = a.figures.now;
      signers = a.signers.now;
      seal = option_map (λ s. s.now) a.seal;
      rows = map view a.rows.now;
    }

-- the step of these parts
abbrev pub seen_parts :
    (((((List ℕ × Vec Template Global) × Bool) × Vec ℕ Global) × ℕ) × Vec Branch Global) × Target → StepValue
seen_parts ((((((name, templates), sealed), signers), repeat), branches), otherwise) =
    step_value name templates.items sealed signers.items repeat branches.items otherwise

abbrev pub seen_top : Top → TopValue
seen_top top =
    record {
      fields = map view top.fields.now;
      signers = map view top.signers.now;
      seal = option_map (λ v. view v.now) top.seal;
      steps = map view top.steps.now;
    }

-- the script of these fields and this body
abbrev pub seen_body : List NamedField → Body → ScriptValue
seen_body fields body =
    record { fields = fields; signers = body.signers.items; seal = body.seal; steps = body.steps.items }
