use Rattle.std.proofs.Common.{◌≡◌, refl, ◌∙◌, ap, List, take}
use Rattle.fints_syntax_segments.specs.declared.item.OwnedItem.{OwnedItem}
use Rattle.fints_syntax_segments.specs.Flat.{Filled}
use Rattle.fints_syntax_segments.proofs.Flats.{open_left}
use Rattle.fints_syntax_segments.proofs.flat.Filling.leave_open.Goals as goal

abbrev make : List (List OwnedItem) → List OwnedItem → Filled
make es is = record { elements = es; items = is }

same : {es fs : List (List OwnedItem)} {is js : List OwnedItem} → es ≡ fs → is ≡ js → make es is ≡ make fs js
same p q = rw (p, q) refl

pub returns : goal.returns
returns c =
    let f = c.self.inside in
    let left = open_left f.bytes.items f.spans.items f.groups.items f.open c.self.invariant.spans c.self.invariant.groups c.self.invariant.within in
    let spans : c.truncate.new.self.items ≡ take f.open f.spans.items = c.truncate.ensures.items in
    rw spans (same (left.elements ∙ ap (λ (x : Filled). x.elements) c.self.view_is) left.items)
