use Rattle.std.proofs.Common.{ℕ, List, length, ap, sym, ◌∙◌, Any}
use Rattle.std.proofs.lemmas.List.{length-map}
use Rattle.fints_syntax.specs.Owned.{segment_of}
use Rattle.fints_syntax_segments.specs.declared.item.OwnedSegment.{OwnedSegment}
use Rattle.fints_cli_drafts_accounts.specs.Offers.{IsListOf}
use Rattle.fints_cli_drafts_accounts.specs.declared.listing.AccountList.{AccountList}
use Rattle.fints_cli_drafts_accounts.proofs.OfferLemmas.{adds_more, adds_none, adds_wider, listed_in}
use Rattle.fints_cli_drafts_accounts.proofs.offers.Offering.offers_in.Goals as goal

pub loop-segment-init : goal.loop-segment-init
loop-segment-init c =
    adds_none (λ list. Any (IsListOf c.args.basis.now (length c.ends-signatures.result.now) list) c.deref-segment-items.result.now)
    c.args.self.now.lists.items

pub loop-segment-preserved : goal.loop-segment-preserved
loop-segment-preserved c =
    let signatures : ℕ = length c.ends-signatures.result.now in
    let items : List OwnedSegment = c.deref-segment-items.result.now in
    let segment : OwnedSegment = c.segment-item.result in
    let before = c.loop-segment.self.lists.items in
    let after = c.offer_of.new.self.lists.items in
    adds_more (λ list. Any (IsListOf c.args.basis.now signatures list) items) c.args.self.now.lists.items before after
    c.loop-segment.invariant
    (adds_wider (λ list. IsListOf c.args.basis.now signatures list segment)
    (λ list. Any (IsListOf c.args.basis.now signatures list) items)
    (λ list is. (c.loop-segment.segment-index, segment, c.loop-segment-test.true, sym c.segment-item.is, is))
    before after c.in_ok-offer_of.ensures)

pub returns : goal.returns
returns c =
    listed_in c.args.basis.now c.args.message.now c.deref-segment-items.result.now (length c.ends-signatures.result.now)
    (c.deref-segment-items.ensures.value ∙ c.in_ok-body.ensures ∙ c.body.ensures.segments)
    (sym (length-map c.ends-signatures.result.now segment_of) ∙ ap (λ xs. length xs) c.ends-signatures.ensures)
    c.args.self.now.lists.items c.loop-segment.self.lists.items c.loop-segment.invariant
