-- The picture of a script's ways in Graphviz's DOT: a line for each step, and after it one for each of its
-- branches, its default among them. Names, kinds and patterns hold neither `"` nor `\`, so they are between
-- quotes as they are; `\n` there begins a line of a label. What only private contracts and proofs use comes
-- last, under a heading.
use Rattle.std.specs.Prelude.{◌≡◌, ◌==◌, ℕ, ◌+◌, ◌-◌, Bool, List, [], ◌∷◌, ◌++◌, length, codes, Option, Some, None, slice_get}
use Rattle.std.specs.List.{filter, flat_map, range_with_len}
use Rattle.std.specs.Option.{option_map_or}
use Rattle.std.specs.Fmt.{decimal}
use Rattle.fints_rules.specs.Rules.{rule_name}
use Rattle.fints_script_cases.specs.Answers.{target_of}
use Rattle.fints_script_cases.specs.Patterns.{code_text}
use Rattle.fints_script_cases.specs.declared.answers.Branch.{Branch}
use Rattle.fints_script_cases.specs.declared.answers.Target.{Target}
use Rattle.fints_script_cases.specs.declared.answers.Target.TheVariants as targets
use Rattle.fints_script_templates.specs.declared.template.Template.{Template}
use Rattle.fints_script.specs.Numbered.{numbered}
use Rattle.fints_script.specs.Steps.{StepValue}
use Rattle.fints_check_findings.specs.declared.finding.Finding.{Finding}
use Rattle.fints_check_findings.specs.declared.finding.Reached.{Reached}
use Rattle.fints_cli_scripts.specs.StepNames.{step_name}
use Rattle.fints_cli_drawings.specs.Openers.{opener_of}

-- of what no run sends and no answer fires
abbrev pub grey : List ℕ
grey = codes ", color=gray, fontcolor=gray"

-- ---- steps

-- a segment by its kind and version
unfoldable pub segment_text : Template → List ℕ
segment_text t = codes "\\n" ++ t.kind ++ codes ":" ++ decimal t.version

-- the greatest number and size of a step's messages, or that no run sends it
unfoldable pub reached_label : Option Reached → List ℕ
reached_label None = codes "\\nunreached"
reached_label (Some reached) =
    codes "\\nnumber " ++ decimal reached.number ++ codes " size " ++ decimal reached.size

-- the rule and the segment of what was found
unfoldable pub broken_text : Finding → List ℕ
broken_text f = codes "\\n" ++ rule_name f.rule ++ codes " segment " ++ decimal f.segment

-- grey where no run sends the step, red where something was found of it
unfoldable pub node_style : Option Reached → List Finding → List ℕ
node_style None found = grey
node_style (Some reached) [] = []
node_style (Some reached) (f ∷ fs) = codes ", color=red, fontcolor=red"

-- the lines of a step's label
unfoldable pub label_text : StepValue → Option Reached → List Finding → List ℕ
label_text step reached found =
    step.name ++ flat_map segment_text step.templates ++ reached_label reached ++ flat_map broken_text found

-- the line of a step
unfoldable pub node_line : StepValue → Option Reached → List Finding → List ℕ
node_line step reached found =
    codes "  \"" ++ step.name ++ codes "\" [label=\"" ++ label_text step reached found ++ codes "\""
    ++ node_style reached found ++ codes "];\n"

-- ---- branches, counted from 1; the default counts as the last

-- the pattern of a branch, or the word for the default
abbrev pub pattern_text : List Branch → ℕ → List ℕ
pattern_text branches b = option_map_or (λ branch. branch.on) (slice_get branches (b - 1)) (codes "default")

-- the least code that fires it by itself, if some answer does
unfoldable pub opener_text : Option ℕ → List ℕ
opener_text None = []
opener_text (Some code) = codes " (" ++ code_text code ++ codes ")"

-- how many messages of the step may be sent in a row, where the branch has it sent again
unfoldable pub repeat_text : ℕ → Target → List ℕ
repeat_text repeat targets.Again = codes " repeat " ++ decimal repeat
repeat_text repeat _ = []

-- dashed where it is the default
abbrev pub default_style : List Branch → ℕ → List ℕ
default_style branches b =
    option_map_or (λ (branch : Branch). []) (slice_get branches (b - 1)) (codes ", style=dashed")

-- grey where no answer fires it
unfoldable pub closed_style : Option ℕ → List ℕ
closed_style None = grey
closed_style (Some code) = []

-- where a branch of the step leads: the name of a step, or `stop`, which names none
abbrev pub target_name : List StepValue → StepValue → Target → List ℕ
target_name steps step (targets.Step n) = step_name steps n
target_name steps step targets.Again = step.name
target_name steps step targets.Stop = codes "stop"

-- the label of the edge of a branch with this opener that leads to this target
unfoldable pub edge_label : StepValue → ℕ → Option ℕ → Target → List ℕ
edge_label step b opener to = pattern_text step.branches b ++ opener_text opener ++ repeat_text step.repeat to

unfoldable pub edge_style : StepValue → ℕ → Option ℕ → List ℕ
edge_style step b opener = default_style step.branches b ++ closed_style opener

-- the line of a branch with this opener that leads to this target, among all steps
unfoldable pub edge_to : List StepValue → StepValue → ℕ → Option ℕ → Target → List ℕ
edge_to steps step b opener to =
    codes "  \"" ++ step.name ++ codes "\" -> \"" ++ target_name steps step to ++ codes "\" [label=\""
    ++ edge_label step b opener to ++ codes "\"" ++ edge_style step b opener ++ codes "];\n"

-- the line of a branch
abbrev pub edge_line : List StepValue → StepValue → ℕ → List ℕ
edge_line steps step b =
    edge_to steps step b (opener_of step.branches b) (target_of step.branches step.otherwise b)

-- the lines of all branches of a step, the default among them
abbrev pub edge_lines : List StepValue → StepValue → List ℕ
edge_lines steps step = flat_map (edge_line steps step) (range_with_len 1 (length step.branches + 1))

-- ---- the picture

-- what was found of step n
abbrev pub is_found_at : ℕ → Finding → Bool
is_found_at n f = f.step == n

abbrev pub found_at : ℕ → List Finding → List Finding
found_at n findings = filter (is_found_at n) findings

-- the line of a step and those of its branches
abbrev pub step_drawn : List StepValue → StepValue → Option Reached → List Finding → List ℕ
step_drawn steps step reached found = node_line step reached found ++ edge_lines steps step

-- those of the steps from step n on, each with the figures at its place and what was found of it
abbrev pub steps_text : List StepValue → ℕ → List StepValue → List (Option Reached) → List Finding → List ℕ
steps_text steps n (step ∷ later) (reached ∷ figures) findings =
    step_drawn steps step reached (found_at n findings) ++ steps_text steps (n + 1) later figures findings
steps_text steps n _ _ findings = []

-- what is before the steps: the end of the runs is a node too
unfoldable pub opening : List ℕ
opening = codes "digraph fints {\n  node [shape=box];\n  \"stop\" [shape=doublecircle];\n"

abbrev pub picture_text : List StepValue → List (Option Reached) → List Finding → List ℕ
picture_text steps figures findings = opening ++ (steps_text steps 1 steps figures findings ++ codes "}\n")

-- ---- of private contracts and proofs only

-- after the old text are the line of step n and those of its branches
abbrev pub IsStepWritten : List StepValue → ℕ → Option Reached → List Finding → List ℕ → List ℕ → Type 0
IsStepWritten steps n reached findings old new =
    (step : StepValue) → numbered steps n ≡ Some step
    → new ≡ old ++ step_drawn steps step reached (found_at n findings)
