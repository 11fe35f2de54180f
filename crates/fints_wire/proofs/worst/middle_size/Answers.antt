use Rattle.std.proofs.Common.{◌≡◌, Bool, true, ℕ, ap, sym, ◌∙◌, arith}
use Rattle.fints_wire.specs.Lengths.{binary_size, elements_len, longest_sizes, middle_len, segments_len}
use Rattle.fints_wire.specs.Messages.{seal_of, templates_of}
use Rattle.fints_wire.proofs.Weighing.{longest_within, step_short}
use Rattle.fints_wire.proofs.worst.middle_size.Goals as goal

pub envelope_size-envelope-requires : goal.envelope_size-envelope-requires
envelope_size-envelope-requires c =
    let script = c.args.plan.now.script in
    let short =
    step_short script c.args.step.now (longest_sizes script.fields c.args.number.number) c.args.number.number
    c.requires.step (longest_within script c.args.number.number c.requires.sound) c.args.number.most in
    let inner = short.inner in
    let size = c.segments_size-inner.ensures in
    omega arith

pub seal_size-requires : goal.seal_size-requires
seal_size-requires c =
    let script = c.args.plan.now.script in
    let step = c.args.step.now in
    let sizes = longest_sizes script.fields c.args.number.number in
    let short = step_short script step sizes c.args.number.number c.requires.step (longest_within script c.args.number.number c.requires.sound) c.args.number.most in
    let whole = short.whole in
    let inner = c.segments_size-inner.ensures in
    let envelope = c.envelope_size-envelope.ensures in
    let sealed : step.sealed ≡ true = sym c.sealed.ensures ∙ c.if-not-sealed.false in
    let middle : middle_len step.sealed (elements_len sizes (seal_of script))
    (segments_len sizes 2 (templates_of script step)) ≡ middle_len true
    (elements_len sizes (seal_of script)) (segments_len sizes 2 (templates_of script step)) =
    ap
    (λ (b : Bool).
    middle_len b (elements_len sizes (seal_of script))
    (segments_len sizes 2 (templates_of script step)))
    sealed in
    let bytes : binary_size c.segments_size-inner.result ≡ binary_size
    (segments_len sizes 2 (templates_of script step)) =
    ap (λ (n : ℕ). binary_size n) inner in
    omega arith
