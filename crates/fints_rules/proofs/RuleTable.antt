-- The rules in the order of their numbers: each is among them once, at its number.
use Rattle.std.proofs.Common.{ℕ, ◌+◌, ◌-◌, ◌<◌, ◌≤◌, ◌==◌, ◌≡◌, ◌⊎◌, Bool, true, length, get_or, refl, ap, sym, subst, ◌∙◌, arith, inl, inr}
use Rattle.std.proofs.lemmas.Bool.{agree_below, agree_below_at, cases_order, eqb-true}
use Rattle.std.proofs.lemmas.List.{get_or_default}
use Rattle.fints_rules.specs.Rules.{rule_number}
use Rattle.fints_rules.specs.declared.rule.Rule.{Rule}
use Rattle.fints_rules.specs.declared.rule.Rule.TheVariants as rule
use Rattle.fints_rules.specs.declared.rule.TheConstants.Rule.{ALL}

-- the rule of this number; after the last it is no matter which
rule_at : ℕ → Rule
rule_at n = get_or ALL (n - 1) rule.Protocol

stands : (r : Rule) → rule_at (rule_number r) ≡ r
unfolding rule_at
stands rule.Protocol = refl
stands _ = refl

-- a number is that of one rule
pub rule_once : (r s : Rule) → rule_number r ≡ rule_number s → r ≡ s
rule_once r s e = sym (stands r) ∙ (ap rule_at e ∙ stands s)

pub number_within : (r : Rule) → (1 ≤ rule_number r) × (rule_number r ≤ length ALL)
number_within rule.Protocol = (omega arith, omega arith)
number_within _ = (omega arith, omega arith)

-- one rule, or another
pub rule_or : (r s : Rule) → (r ≡ s) ⊎ (r ≡ s → ⊥)
rule_or r s = elim (cases_order (rule_number r) (rule_number s)) [
  | inl at ↦ inl (rule_once r s at)
  | inr other ↦ inr (λ is. let same = ap rule_number is in elim other [ inl below ↦ omega (arith, same, below) | inr above ↦ omega (arith, same, above) ])
]

-- ---- as they are in the list

abbrev has_place : ℕ → Bool
has_place k = rule_number (get_or ALL k rule.Protocol) == k + 1

each_has : agree_below has_place (λ _. true) (length ALL) ≡ true
each_has = refl

pub number_at : (k : ℕ) (d : Rule) → k < length ALL → rule_number (get_or ALL k d) ≡ k + 1
number_at k d lt =
    ap rule_number (get_or_default ALL k d rule.Protocol lt)
    ∙ eqb-true (rule_number (get_or ALL k rule.Protocol)) (k + 1)
    (agree_below_at has_place (λ _. true) (length ALL) k each_has lt)

-- what holds of each that is there holds of each
pub each_rule : (P : Rule → Type 0) → ((k : ℕ) (d : Rule) → k < length ALL → P (get_or ALL k d)) → (r : Rule)
    → P r
each_rule P h r =
    let within = number_within r in subst P
    (rule_once (get_or ALL (rule_number r - 1) r) r
    (number_at (rule_number r - 1) r (omega arith) ∙ omega arith))
    (h (rule_number r - 1) r (omega arith))

-- the default of a look-up is of no matter
pub rule_same : (P : Rule → Type 0) (i k : ℕ) (d e : Rule) → i ≡ k → k < length ALL → P (get_or ALL i d)
    → P (get_or ALL k e)
rule_same P i k d e same within h = subst P (ap (λ (n : ℕ). get_or ALL n d) same ∙ get_or_default ALL k d e within) h
