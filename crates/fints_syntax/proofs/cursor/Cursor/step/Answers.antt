use Rattle.std.proofs.Common.{◌≡◌, ◌<◌, ◌≤◌, ◌∷◌, ◌∙◌, List, length, sym, ap, subst, arith}
use Rattle.fints_syntax_segments.specs.Segment.{Token}
use Rattle.fints_syntax_segments.specs.declared.limits.TheConstants.{MAX_ITEMS}
use Rattle.fints_syntax.specs.Reader.{tokens_in, read_item}
use Rattle.fints_syntax.specs.Items.{IsSpelledText}
use Rattle.fints_syntax.specs.ItemIs.{IsItem}
use Rattle.fints_syntax.proofs.Cursors.{next_of, run_there, none_left, read_run}
use Rattle.fints_syntax.proofs.cursor.Cursor.step.Goals as goal

pub returns-then-is_empty-clause-end : goal.returns-then-is_empty-clause-end
returns-then-is_empty-clause-end c =
    let none : length c.self.inside.rest.now ≡ 0 = grind arith in
    let e = sym c.self.view_is ∙ none_left c.self.inside.rest.now none in
    (e, e)

pub item_from-requires : goal.item_from-requires
item_from-requires c =
    let bs = c.self.inside.rest.now in
    let some : 0 < length bs = grind arith in
    let n = next_of bs c.in-Whole.len c.in-Whole.after (tokens_in (length bs) bs) c.self.invariant.run c.self.invariant.text some c.in-Whole.ensures in
    subst IsSpelledText (sym c.split_at.ensures.front) n.spelled

pub invariant_of-self : goal.invariant_of-self
invariant_of-self c =
    let bs = c.self.inside.rest.now in
    let some : 0 < length bs = grind arith in
    let n = next_of bs c.in-Whole.len c.in-Whole.after (tokens_in (length bs) bs) c.self.invariant.run c.self.invariant.text some c.in-Whole.ensures in
    let few : length n.more ≤ MAX_ITEMS = omega (arith, ap length n.split, c.self.invariant.few) in
    let r = read_run c.split_at-in-Whole.result.1.now n.more n.run few (c.split_at-in-Whole.ensures.back ∙ n.rest) in
    record { text = r.text; run = r.run; few = r.few }

pub returns-in-Whole-clause-taken : goal.returns-in-Whole-clause-taken
returns-in-Whole-clause-taken c =
    let bs = c.self.inside.rest.now in
    let some : 0 < length bs = grind arith in
    let n = next_of bs c.in-Whole.len c.in-Whole.after (tokens_in (length bs) bs) c.self.invariant.run c.self.invariant.text some c.in-Whole.ensures in
    let few : length n.more ≤ MAX_ITEMS = omega (arith, ap length n.split, c.self.invariant.few) in
    let r = read_run c.split_at-in-Whole.result.1.now n.more n.run few (c.split_at-in-Whole.ensures.back ∙ n.rest) in
    let is = ap read_item c.split_at.ensures.front ∙ n.item in
    record {
      token = n.token;
      split = sym c.self.view_is ∙ n.split ∙ ap (λ (ts : List Token). n.token ∷ ts) (sym r.tokens);
      item = subst (IsItem c.item_from.result) is c.item_from.ensures;
      after = n.after_is;
    }

pub returns-in-Cut-clause-end : goal.returns-in-Cut-clause-end
returns-in-Cut-clause-end c =
    let bs = c.self.inside.rest.now in
    let some : 0 < length bs = grind arith in
    absurd (c.in-Cut.ensures.0.no_item (run_there bs (tokens_in (length bs) bs) c.self.invariant.run c.self.invariant.text some))

pub returns-in-Bad-clause-end : goal.returns-in-Bad-clause-end
returns-in-Bad-clause-end c =
    let bs = c.self.inside.rest.now in
    let some : 0 < length bs = grind arith in
    absurd (c.in-Bad.ensures.no_item (run_there bs (tokens_in (length bs) bs) c.self.invariant.run c.self.invariant.text some))
