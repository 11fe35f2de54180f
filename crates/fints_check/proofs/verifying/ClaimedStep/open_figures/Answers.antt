use Rattle.std.proofs.Common.{ℕ, ◌≤◌, ◌≡◌, None, Some, length, refl, sym, subst, arith}
use Rattle.fints_rules.specs.declared.whole.TheConstants.{LAST_NUMBER}
use Rattle.fints_rules.specs.Rules.{BreaksNumber, BreaksSize, FiguresBreak}
use Rattle.fints_rules.specs.declared.facts.Figures.{Figures}
use Rattle.fints_rules.specs.declared.rule.Rule.{Rule}
use Rattle.fints_rules.specs.declared.rule.Rule.TheVariants as rule
use Rattle.fints_check.specs.declared.unclosed.Open.TheVariants as Open
use Rattle.fints_check.specs.Certificates.{worst_len}
use Rattle.fints_check.specs.Verifying.{ClaimsValue, TellsFigures}
use Rattle.fints_check.proofs.Promising.{figures_permitted, number_asked}
use Rattle.fints_check.proofs.verifying.ClaimedStep.open_figures.Goals as goal

pub worst_size-longest-requires-clause-first : goal.worst_size-longest-requires-clause-first
worst_size-longest-requires-clause-first c =
    subst (λ (f : Figures). 1 ≤ f.number) c.figures-figures.ensures
    (number_asked c.figures-figures.result (λ b. let told = c.figures_break.ensures.1 b in absurd cc)).0

pub worst_size-longest-requires-clause-last : goal.worst_size-longest-requires-clause-last
worst_size-longest-requires-clause-last c =
    let asked =
    subst (λ (f : Figures). f.number ≤ LAST_NUMBER) c.figures-figures.ensures
    (number_asked c.figures-figures.result (λ b. let told = c.figures_break.ensures.1 b in absurd cc)).1 in
    omega (arith, asked)

pub worst_size-longest-requires-clause-to : goal.worst_size-longest-requires-clause-to
worst_size-longest-requires-clause-to c = subst (λ (v : ClaimsValue). c.args.self.n ≤ length v.script.steps) (sym c.claims.view_is) c.args.self.last

pub returns-then-figures_break-clause-none : goal.returns-then-figures_break-clause-none
returns-then-figures_break-clause-none c step at = (
  λ h. absurd cc,
  λ closed.
      absurd
      (closed.permitted rule.Number
      (subst (λ (f : Figures). BreaksNumber f) c.figures-figures.ensures (c.figures_break.ensures.0 c.if-figures_break.true))),
)

pub returns-then-figures_break-2-clause-none : goal.returns-then-figures_break-2-clause-none
returns-then-figures_break-2-clause-none c =
    let granted = c.claims.inside.permissions.now in
    subst (λ (v : ClaimsValue). TellsFigures v c.args.self.n c.args.reached (Some (Open.BreaksSize c.args.self.n c.args.reached.size))) c.claims.view_is
    (λ step at. (
      λ h. absurd cc,
      λ closed.
          absurd
          (closed.permitted rule.Size
          (subst (λ (f : Figures). BreaksSize granted.rows.bank f) c.figures-figures.ensures
          (subst (λ b. BreaksSize b c.figures-figures.result) c.bank-bank.ensures
          (c.figures_break-2.ensures.0 c.if-figures_break-2.true)))),
    ))

pub returns-then-size-longest-clause-none : goal.returns-then-size-longest-clause-none
returns-then-size-longest-clause-none c =
    let script = c.claims.inside.plan.now.script in
    subst (λ (v : ClaimsValue). TellsFigures v c.args.self.n c.args.reached
    (Some (Open.LowSize c.args.self.n c.args.reached.number c.worst_size-longest.result c.args.reached.size))) c.claims.view_is
    (λ step at. (
      λ h. absurd cc,
      λ closed.
          let enough = closed.size in
          let longest : c.worst_size-longest.result ≡ worst_len script step c.args.reached.number = c.worst_size-longest.ensures.attained step at in
          absurd (omega arith),
    ))

pub returns-clause-none : goal.returns-clause-none
returns-clause-none c =
    let inside = c.claims.inside in
    let granted = inside.permissions.now in
    let script = inside.plan.now.script in
    subst (λ (v : ClaimsValue). TellsFigures v c.args.self.n c.args.reached None) c.claims.view_is
    (λ step at. (
      λ h. record {
        permitted =
            subst (λ (f : Figures). (r : Rule) → FiguresBreak granted.rows.bank f r → ⊥) c.figures-figures.ensures
            (figures_permitted granted c.figures-figures.result
            (λ b. let told = c.figures_break.ensures.1 b in absurd cc)
            (subst (λ b. BreaksSize b c.figures-figures.result → ⊥) c.bank-bank.ensures
            (λ b. let told = c.figures_break-2.ensures.1 b in absurd cc)));
        size = subst (λ (k : ℕ). k ≤ c.args.reached.size) (c.worst_size-longest.ensures.attained step at) c.if-size-longest.false;
      },
      λ closed. refl,
    ))
