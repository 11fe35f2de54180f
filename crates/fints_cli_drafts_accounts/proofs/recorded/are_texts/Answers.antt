use Rattle.std.proofs.Common.{◌≡◌, ◌+◌, ◌-◌, ℕ, refl, subst, sym, ◌∙◌, arith, []}
use Rattle.std.specs.Prelude.{IfSome}
use Rattle.std.specs.List.{slice_get}
use Rattle.std.proofs.lemmas.Bool.{false≢true}
use Rattle.std.proofs.lemmas.List.{take_all}
use Rattle.std.proofs.lemmas.List.Elements.{All-more, All-same}
use Rattle.fints_syntax_segments.specs.declared.item.OwnedItem.{OwnedItem}
use Rattle.fints_syntax_segments.specs.declared.item.OwnedItem.TheVariants.{Text}
use Rattle.fints_cli_drafts_accounts.specs.Accounts.{IsText}
use Rattle.fints_cli_drafts_accounts.proofs.FillLemmas.{at_text, text_at}
use Rattle.fints_cli_drafts_accounts.proofs.recorded.are_texts.Goals as goal

pub loop-i-preserved : goal.loop-i-preserved
loop-i-preserved c =
    let xs = c.args.items.now in
    let i = c.loop-i.i in
    let none : OwnedItem = Text [] in
    let at : i + 1 - 1 ≡ i = omega arith in
    let is = subst (λ (n : ℕ). IfSome (slice_get xs n) IsText) at (c.is_text.ensures.0 c.if-not-is_text.false) in
    All-more IsText xs i none (omega arith) c.loop-i.invariant (text_at xs i none (omega arith) is)

pub returns-then-not-is_text : goal.returns-then-not-is_text
returns-then-not-is_text c =
    let xs = c.args.items.now in
    let i = c.loop-i.i in
    let none : OwnedItem = Text [] in
    let at : i ≡ i + 1 - 1 = omega arith in (
      λ h. absurd (false≢true h),
      λ all.
          let is = subst (λ (n : ℕ). IfSome (slice_get xs n) IsText) at (at_text xs i none (omega arith) (all i none (omega arith))) in
          sym c.if-not-is_text.true ∙ c.is_text.ensures.1 is,
    )

pub returns : goal.returns
returns c =
    (λ _. All-same IsText c.args.items.now _ (sym (take_all c.loop-i.i c.args.items.now (omega arith))) c.loop-i.invariant, λ _. refl)
