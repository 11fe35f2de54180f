use Rattle.std.proofs.Common.{◌≡◌, sym, subst, List, ℕ}
use Rattle.std.specs.Prelude.{Any, IsTrue, ◌↔◌}
use Rattle.fints_rules.proofs.RuleLemmas.{not_among}
use Rattle.fints_rules.proofs.whole.breaks_protocol.Goals as goal

pub returns-in-Some : goal.returns-in-Some
returns-in-Some c =
    let same : IsTrue c.is_among.result ↔ Any (λ m. m ≡ c.in-Some.number) c.args.bank.now.protocols =
    subst (λ (ns : List ℕ). IsTrue c.is_among.result ↔ Any (λ m. m ≡ c.in-Some.number) ns)
    c.as_slice.ensures c.is_among.ensures in
    not_among c.is_among.result c.args.bank.now.protocols c.args.facts.now.protocol c.in-Some.number (sym c.in-Some.is) same
