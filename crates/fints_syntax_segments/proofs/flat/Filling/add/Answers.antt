use Rattle.std.proofs.Common.{◌≡◌, refl, ◌-◌, ◌++◌, ◌∷◌, ◌≤◌, [], ◌∙◌, ap, List, arith, length, drop}
use Rattle.std.proofs.lemmas.List.{length-append}
use Rattle.fints_syntax_segments.specs.Segment.{item_value}
use Rattle.fints_syntax_segments.specs.declared.item.OwnedItem.{OwnedItem}
use Rattle.fints_syntax_segments.specs.declared.element.Span.{Span}
use Rattle.fints_syntax_segments.specs.Flat.{Filled}
use Rattle.fints_syntax_segments.proofs.Flats.{view_added, view_front, spans_added, within_added, spans_more, front_more, on_err}
use Rattle.fints_syntax_segments.proofs.flat.Filling.add.Goals as goal

abbrev make : List (List OwnedItem) → List OwnedItem → Filled
make es is = record { elements = es; items = is }

same : {es fs : List (List OwnedItem)} {is js : List OwnedItem} → es ≡ fs → is ≡ js → make es is ≡ make fs js
same p q = rw (p, q) refl

pub returns-in_err-append_value-clause-unchanged : goal.returns-in_err-append_value-clause-unchanged
returns-in_err-append_value-clause-unchanged g c =
    let f = c.self.inside in
    let bs = f.bytes.items in
    let more = front_more bs c.append_value.new.out.items c.in_err-append_value.ensures.kept in
    let v = drop (length bs) c.append_value.new.out.items in
    let k = view_front bs v f.spans.items f.groups.items f.open c.self.invariant.spans c.self.invariant.groups c.self.invariant.within in
    on_err c.from_residual.result (rw more (same k.0 k.1) ∙ c.self.view_is)

pub invariant_of-self-in_err-push : goal.invariant_of-self-in_err-push
invariant_of-self-in_err-push g c =
    let f = c.self.inside in
    let bs = f.bytes.items in
    let new : c.append_value.new.out.items ≡ bs ++ item_value (g.V.Valued.owned c.args.item.now) = c.in_ok-append_value.ensures.added in
    let spans : c.push.new.self.items ≡ f.spans.items = c.in_err-push.ensures.items in
    let le : length bs ≤ length c.append_value.new.out.items = omega (arith, ap length new, length-append bs (item_value (g.V.Valued.owned c.args.item.now))) in
    record {
      spans = rw spans (spans_more (length bs) (length c.append_value.new.out.items) f.spans.items le c.self.invariant.spans);
      groups = c.self.invariant.groups;
      within = rw spans c.self.invariant.within;
    }

pub returns-in_err-push-clause-unchanged : goal.returns-in_err-push-clause-unchanged
returns-in_err-push-clause-unchanged g c =
    let f = c.self.inside in
    let bs = f.bytes.items in
    let new : c.append_value.new.out.items ≡ bs ++ item_value (g.V.Valued.owned c.args.item.now) = c.in_ok-append_value.ensures.added in
    let spans : c.push.new.self.items ≡ f.spans.items = c.in_err-push.ensures.items in
    let k =
    view_front bs (item_value (g.V.Valued.owned c.args.item.now)) f.spans.items f.groups.items f.open
    c.self.invariant.spans c.self.invariant.groups c.self.invariant.within in
    on_err c.from_residual-in_err-push.result (rw (new, spans) (same k.0 k.1) ∙ c.self.view_is)

pub invariant_of-self-2 : goal.invariant_of-self-2
invariant_of-self-2 g c =
    let f = c.self.inside in
    let bs = f.bytes.items in
    let v = item_value (g.V.Valued.owned c.args.item.now) in
    let new : c.append_value.new.out.items ≡ bs ++ v = c.in_ok-append_value.ensures.added in
    let s : Span = record { start = c.len-start.result; len = c.len.result - c.len-start.result; binary = c.is_binary-binary.result } in
    let spans : c.push.new.self.items ≡ f.spans.items ++ s ∷ [] = c.in_ok-push.ensures.items in
    let start : c.len-start.result ≡ length bs = grind arith in
    let len : c.len.result - c.len-start.result ≡ length v =
    (let size : c.len.result ≡ length c.append_value.new.out.items = grind arith in omega
    (arith, size, start, ap length new, length-append bs v)) in
    record {
      spans =
          rw (new, spans)
          (spans_added bs v f.spans.items f.groups.items f.open c.self.invariant.spans
          c.self.invariant.groups c.self.invariant.within s start len);
      groups = c.self.invariant.groups;
      within = rw spans (within_added bs v f.spans.items f.groups.items f.open c.self.invariant.spans c.self.invariant.groups c.self.invariant.within s);
    }

pub returns-clause-added : goal.returns-clause-added
returns-clause-added g c =
    let f = c.self.inside in
    let bs = f.bytes.items in
    let v = item_value (g.V.Valued.owned c.args.item.now) in
    let new : c.append_value.new.out.items ≡ bs ++ v = c.in_ok-append_value.ensures.added in
    let s : Span = record { start = c.len-start.result; len = c.len.result - c.len-start.result; binary = c.is_binary-binary.result } in
    let spans : c.push.new.self.items ≡ f.spans.items ++ s ∷ [] = c.in_ok-push.ensures.items in
    let start : c.len-start.result ≡ length bs = grind arith in
    let len : c.len.result - c.len-start.result ≡ length v =
    (let size : c.len.result ≡ length c.append_value.new.out.items = grind arith in omega
    (arith, size, start, ap length new, length-append bs v)) in
    let k =
    view_added bs v f.spans.items f.groups.items f.open c.self.invariant.spans c.self.invariant.groups
    c.self.invariant.within s start len (g.V.Valued.owned c.args.item.now) c.is_binary-binary.ensures in
    let es = k.0 ∙ ap (λ (x : Filled). x.elements) c.self.view_is in
    let is = k.1 ∙ ap (λ (x : Filled). x.items ++ g.V.Valued.owned c.args.item.now ∷ []) c.self.view_is in
    rw (new, spans) (same es is)
