use Rattle.std.proofs.Common.{◌≡◌, ◌+◌, ◌<◌, ◌≤◌, ℕ, map, length, get_or, drop, ap, sym, subst, arith}
use Rattle.fints_syntax.specs.Kind.{IsKindText}
use Rattle.fints_script_templates.specs.Figures.{figures_of}
use Rattle.fints_script_templates.specs.declared.template.Template.{Template}
use Rattle.fints_wire.specs.Lengths.{elements_len, head_len, longest_sizes, segments_len}
use Rattle.fints_wire.specs.Messages.{templates_of}
use Rattle.fints_wire.proofs.Weighing.{longest_within, segments-drop, segments-end, small_templates, step_short}
use Rattle.fints_wire.proofs.worst.segments_size.Goals as goal

pub count_part-size-requires : goal.count_part-size-requires
count_part-size-requires c =
    let script = c.args.plan.now.script in
    let step = c.args.step.now in
    let number = c.args.number.number in
    let sizes = longest_sizes script.fields number in
    let ts = templates_of script step in
    let t = c.part_at-part.result in
    let i = c.loop-i.i in
    let count = c.part_count-i-end.ensures.count script in
    let test = c.loop-i-test.true in
    let lt : i < length ts = omega arith in
    let e = c.part_at-part.ensures t in
    let short = (step_short script step sizes number c.requires.step (longest_within script number c.requires.sound) c.args.number.most).inner in
    let inv = c.loop-i.invariant in
    let d = segments-drop sizes (i + 2) i ts t lt in
    let k = small_templates script step (map figures_of script.fields) c.requires.step i t lt in
    let same : head_len t.kind (i + 2) t.version + elements_len sizes t.elements ≡ head_len
    (get_or ts i t).kind (i + 2) (get_or ts i t).version + elements_len sizes (get_or ts i t).elements =
    ap (λ (x : Template). head_len x.kind (i + 2) x.version + elements_len sizes x.elements) e in
    record { kind = subst (λ (x : Template). IsKindText x.kind) (sym e) k.0; small = omega arith }

pub loop-i-preserved : goal.loop-i-preserved
loop-i-preserved c =
    let script = c.args.plan.now.script in
    let step = c.args.step.now in
    let number = c.args.number.number in
    let sizes = longest_sizes script.fields number in
    let ts = templates_of script step in
    let t = c.part_at-part.result in
    let i = c.loop-i.i in
    let count = c.part_count-i-end.ensures.count script in
    let test = c.loop-i-test.true in
    let lt : i < length ts = omega arith in
    let e = c.part_at-part.ensures t in
    let inv = c.loop-i.invariant in
    let d = segments-drop sizes (i + 2) i ts t lt in
    let next : i + 2 + 1 ≡ i + 1 + 2 = omega arith in
    let later : segments_len sizes (i + 2 + 1) (drop (i + 1) ts) ≡ segments_len sizes (i + 1 + 2)
    (drop (i + 1) ts) =
    ap (λ (n : ℕ). segments_len sizes n (drop (i + 1) ts)) next in
    let same : head_len t.kind (i + 2) t.version + elements_len sizes t.elements ≡ head_len
    (get_or ts i t).kind (i + 2) (get_or ts i t).version + elements_len sizes (get_or ts i t).elements =
    ap (λ (x : Template). head_len x.kind (i + 2) x.version + elements_len sizes x.elements) e in
    let size = c.count_part-size.ensures in
    omega arith

pub returns : goal.returns
returns c =
    let script = c.args.plan.now.script in
    let sizes = longest_sizes script.fields c.args.number.number in
    let ts = templates_of script c.args.step.now in
    let i = c.loop-i.i in
    let count = c.part_count-i-end.ensures.count script in
    let test = c.loop-i-test.false in
    let past : length ts ≤ i = omega arith in
    let e = segments-end sizes (i + 2) i ts past in
    let inv = c.loop-i.invariant in
    omega arith
