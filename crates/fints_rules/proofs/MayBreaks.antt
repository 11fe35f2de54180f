-- In which messages a segment can break a rule.
use Rattle.std.proofs.Common.{ℕ, ◌≡◌, ◌⊎◌, true, false, refl, subst, arith, inl, inr}
use Rattle.std.proofs.lemmas.Bool.{false≢true}
use Rattle.std.specs.Prelude.{◌↔◌}
use Rattle.fints_rules.specs.Causes.{MayBreak, barest}
use Rattle.fints_rules.specs.Rules.{AccountNeedsMore, SegmentBreaks}
use Rattle.fints_rules.specs.SegmentFacts.{SegmentFactsValue}
use Rattle.fints_rules.specs.declared.facts.MessageFacts.{MessageFacts}
use Rattle.fints_rules.specs.declared.rule.Rule.{Rule}
use Rattle.fints_rules.specs.declared.rule.Rule.TheVariants as rule
use Rattle.fints_rules_permissions.specs.Permits.{Granted, OrderNeedsMore}

module _ (granted : Granted) (s : SegmentFactsValue) (n : ℕ) where
  -- it does so in one of the barest
  abbrev InBarest : Rule → Type 0
  InBarest r = SegmentBreaks granted (barest n false) r s ⊎ SegmentBreaks granted (barest n true) r s

  in_barest : (f : MessageFacts) (r : Rule) → f.signatures ≡ n → SegmentBreaks granted f r s → InBarest r
  in_barest f rule.Protocol same h = absurd h
  in_barest f rule.Number same h = absurd h
  in_barest f rule.Size same h = absurd h
  in_barest f rule.Kinds same h = absurd h
  in_barest f rule.Version same h = inl h
  in_barest f rule.Orders same h = inl h
  in_barest f rule.Listed same h = inl h
  in_barest f rule.Signatures same (inl (is, more)) = inl (inl (is, subst (λ (k : ℕ). OrderNeedsMore granted.rows s.kind s.version k) same more))
  in_barest f rule.Signatures same (inr (is, more)) = inl (inr (is, subst (λ (k : ℕ). AccountNeedsMore granted.rows granted.orders s k) same more))
  in_barest f rule.Account same h = inl h
  in_barest f rule.Tan same (inl (is, listed, none)) = inl (inl (is, listed, λ carried. elim carried [ inl h ↦ false≢true h | inr h ↦ false≢true h ]))
  in_barest f rule.Tan same (inr (sends, none)) = inl (inr (sends, λ h. false≢true h))
  in_barest f rule.Release same h = absurd h
  in_barest f rule.Procedure same (inl (submits, one, many)) = inl (inl (submits, one, omega arith))
  in_barest f rule.Procedure same (inr (is, listed, step, two)) = inr (inr (is, listed, (refl, λ h. false≢true h), two))

  pub in_some : (r : Rule) → MayBreak granted r s n ↔ InBarest r
  in_some r = (
    λ (f, same, h). in_barest f r same h,
    λ h. elim h [ inl a ↦ (barest n false, refl, a) | inr b ↦ (barest n true, refl, b) ],
  )
