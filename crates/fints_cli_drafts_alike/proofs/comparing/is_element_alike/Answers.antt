use Rattle.std.proofs.Common.{◌≡◌, ◌+◌, ◌-◌, ℕ, List, [], Some, subst, sym, slice_get}
use Rattle.std.proofs.lemmas.Option.{get_or_from_slice_get}
use Rattle.fints_syntax_segments.specs.Lent.{item_of_ref}
use Rattle.fints_syntax_segments.specs.Values.{item_at, items_in}
use Rattle.fints_syntax_segments.specs.declared.item.OwnedItem.{OwnedItem}
use Rattle.fints_syntax_segments.specs.declared.item.OwnedItem.TheVariants.{Text}
use Rattle.fints_syntax_segments.specs.declared.item.OwnedSegment.{OwnedSegment}
use Rattle.fints_cli_drafts_alike.specs.Alike.{is_renewed, AreAlikeItems}
use Rattle.fints_cli_drafts_alike.proofs.Places.{one_below}
use Rattle.fints_cli_drafts_alike.proofs.comparing.is_element_alike.Goals as goal

-- an item that is read is the one at its place
read_at : (s : OwnedSegment) (element item : ℕ) (items : List OwnedItem) (x : OwnedItem) → items ≡ items_in s element
    → Some x ≡ slice_get items (item - 1) → x ≡ item_at s element item
read_at s element item items x is read =
    sym (get_or_from_slice_get (items_in s element) (item - 1) x (Text [])
    (subst (λ xs. slice_get xs (item - 1) ≡ Some x) is (sym read)))

pub loop-i-preserved : goal.loop-i-preserved
loop-i-preserved c item from below =
    let own = c.args.own.now in
    let sent = c.args.sent.now in
    let e = c.args.element in
    let n : ℕ = c.loop-i.i + 1 in
    let one = item_of_ref c.in-Some-Some.one in
    let other = item_of_ref c.in-Some-Some.other in
    let is_one : one ≡ item_at own e n = read_at own e n c.items-items.result one c.items-items.ensures.items c.in-Some-Some.ensures in
    let is_other : other ≡ item_at sent e n
    = read_at sent e n c.items-others.result other c.items-others.ensures.items c.in-Some-Some.ensures' in
    let alike : AreAlikeItems (is_renewed own e n) one other
    = subst (λ renewed. AreAlikeItems renewed one other) c.is_renewed.ensures
    (c.is_item_alike.ensures c.if-not-is_item_alike.false) in
    one_below (λ m. AreAlikeItems (is_renewed own e m) (item_at own e m) (item_at sent e m)) 1 c.loop-i.i item c.loop-i.invariant
    (subst (λ x. AreAlikeItems (is_renewed own e n) x (item_at sent e n)) is_one
    (subst (λ x. AreAlikeItems (is_renewed own e n) one x) is_other alike)) from below
