use Rattle.std.proofs.Common.{◌≡◌, map, take}
use Rattle.fints_script_templates.specs.Figures.{figures_of}
use Rattle.fints_script_templates.proofs.weights.all_figures.Given as goal

abbrev pub invariant-loop-field : goal.invariant-loop-field
invariant-loop-field l = l.figures.items ≡ map figures_of (take l.field-index l.fields)
