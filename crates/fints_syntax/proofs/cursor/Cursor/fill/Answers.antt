use Rattle.std.proofs.Common.{◌∙◌, ap, sym, List}
use Rattle.fints_syntax_segments.specs.Segment.{values_of}
use Rattle.fints_syntax.specs.Reader.{read_elements}
use Rattle.fints_syntax_segments.specs.Flat as flat
use Rattle.fints_syntax_segments.specs.declared.item.OwnedItem.{OwnedItem}
use Rattle.fints_syntax.proofs.Fills.{filled_start, filled_colon, filled_other, filled_end}
use Rattle.fints_syntax.proofs.cursor.Cursor.fill.Goals as goal

pub loop-found-init : goal.loop-found-init
loop-found-init c = rw (c.clear.ensures, sym c.self.view_is) (filled_start _ c.self.invariant.run)

pub loop-found-preserved-in-Continue-branch-2 : goal.loop-found-preserved-in-Continue-branch-2
loop-found-preserved-in-Continue-branch-2 c =
    let f = c.loop-found in
    rw (c.in_ok-close.ensures.closed, c.in_ok-add.ensures.added)
    (filled_other (values_of (read_elements c.args.self.now)) f.cursor c.step.new.self
    f.filling.elements f.filling.items c.in-Some.found f.invariant c.in-Some.ensures.taken
    c.if-found-ne58.true)

pub loop-found-preserved : goal.loop-found-preserved
loop-found-preserved c =
    let f = c.loop-found in
    rw c.in_ok-add.ensures.added
    (filled_colon (values_of (read_elements c.args.self.now)) f.cursor c.step.new.self
    f.filling.elements f.filling.items c.in-Some.found f.invariant c.in-Some.ensures.taken
    c.if-found-ne58.false)

abbrev make : List (List OwnedItem) → List OwnedItem → flat.Filled
make es is = record { elements = es; items = is }

pub returns : goal.returns
returns c =
    let f = c.loop-found in
    let e =
    filled_end (values_of (read_elements c.args.self.now)) f.cursor f.filling.elements
    f.filling.items f.invariant c.in_default.ensures.end.0 in
    ap (λ x. make x f.filling.items) e.0 ∙ ap (λ x. make (values_of (read_elements c.args.self.now)) x) e.1
