use Rattle.std.proofs.Common.{◌≡◌, ◌≤◌, ◌-◌, ◌∙◌, ℕ, List, get_or, Option, Some, None, length, ap, sym, arith}
use Rattle.std.proofs.lemmas.Option.{slice_get-get_or}
use Rattle.fints_script.specs.Numbered.{numbered, numbered_of, numbered_within}
use Rattle.fints_check_findings.proofs.releasing.holder_of.Goals as goal

-- what is beside a step
cell_of : (holders : List (Option ℕ)) (s : ℕ) (cell : Option ℕ) → 1 ≤ s → s ≤ length holders
    → get_or holders (s - 1) None ≡ cell → numbered holders s ≡ Some cell
cell_of holders s cell low high is =
    numbered_of holders s cell low (slice_get-get_or holders (s - 1) None (omega (arith, low, high)) ∙ ap (λ (x : Option ℕ). Some x) is)

pub returns-in-Some : goal.returns-in-Some
returns-in-Some c = cell_of c.args.holders.now c.args.s (Some c.in-Some.t) (numbered_within c.args.holders.now c.args.s (Some c.requires.0) c.requires.1).0
    (numbered_within c.args.holders.now c.args.s (Some c.requires.0) c.requires.1).1 c.in-Some.is

pub returns-in-None : goal.returns-in-None
returns-in-None c =
    let at = cell_of c.args.holders.now c.args.s None (numbered_within c.args.holders.now c.args.s (Some c.requires.0) c.requires.1).0
    (numbered_within c.args.holders.now c.args.s (Some c.requires.0) c.requires.1).1 c.in-None.is in
    let both : ◌≡◌ {A = Option (Option ℕ)} (Some None) (Some (Some c.requires.0)) = sym at ∙ c.requires.1 in
    absurd cc

pub overflow_sub-s : goal.overflow_sub-s
overflow_sub-s c = (numbered_within c.args.holders.now c.args.s (Some c.requires.0) c.requires.1).0

pub bounds-holders-s : goal.bounds-holders-s
bounds-holders-s c =
    let within = numbered_within c.args.holders.now c.args.s (Some c.requires.0) c.requires.1 in
    omega (arith, within.0, within.1)
