use Rattle.std.proofs.Common.{rules, ◌≡◌, ◌+◌, ◌∙◌, sym, arith, ap, length}
use Rattle.fints_script_cases.specs.Answers.{target_of}
use Rattle.fints_check_reach.proofs.Scripts.{leads_by_branches}
use Rattle.fints_script_cases.proofs.LawLemmas.{open_branches_lead, openers_lead}
use Rattle.fints_check_reach.proofs.way.code_to.Goals as goal

pub returns-in-Some : goal.returns-in-Some
returns-in-Some c =
    let s = c.args.step.now in
    let opens = c.in-Some.ensures.least.opens in
    let reached : c.target.result ≡ c.args.to = search rules in
    let same : target_of s.branches s.otherwise (c.loop-b.b + 1) ≡ c.args.to = sym c.target.ensures ∙ reached in
    record {
      small = opens.small;
      leads_there =
          openers_lead s.branches s.otherwise (c.loop-b.b + 1) c.in-Some.code (omega arith)
          (omega (arith, ap length c.branches.ensures, c.loop-b-test.true)) opens
          ∙ same;
    }

pub returns : goal.returns
returns c can =
    let way = (leads_by_branches open_branches_lead c.args.step.now c.args.to).0 can in
    c.loop-b.invariant way.0 (let h = way.1 in omega (arith, ap length c.branches.ensures)) way.2 way.3
