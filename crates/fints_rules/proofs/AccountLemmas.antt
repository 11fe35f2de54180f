-- The account of an order.
use Rattle.std.proofs.Common.{◌≡◌, ℕ, true, false, List, Some, refl, ap, ◌∙◌, sym, subst}
use Rattle.std.specs.Prelude.{IsTrue, ◌↔◌}
use Rattle.fints_params.specs.Parameters.{Rows}
use Rattle.fints_rules_permissions.specs.declared.orders.OrderRow.{OrderRow}
use Rattle.fints_rules_permissions.specs.declared.orders.AccountForm.{AccountForm}
use Rattle.fints_rules_permissions.specs.declared.orders.AccountForm.TheVariants.{Nameless, National, International}
use Rattle.fints_syntax_segments.specs.Values.{values_at}
use Rattle.fints_syntax_segments.specs.declared.item.OwnedSegment.{OwnedSegment}
use Rattle.fints_rules_permissions.specs.Accounts.{Account, account_named}
use Rattle.fints_rules.specs.Facts.{six_items}
use Rattle.fints_rules_permissions.specs.Permits.{AllNeedMore, IsLocked}
use Rattle.fints_rules.specs.Rules.{NamesAccount}
use Rattle.fints_rules.specs.SegmentFacts.{SegmentFactsValue}

-- an order names one account
account_one : (table : List OrderRow) (s : SegmentFactsValue) (a b : Account) → NamesAccount table s a
    → NamesAccount table s b → a ≡ b
account_one table s a b n m =
    let both : Some n.form ≡ Some m.form = sym n.form_is ∙ m.form_is in
    let same : n.form ≡ m.form = cc in
    sym n.account_is ∙ ap (λ (f : AccountForm). account_named f s.items) same ∙ m.account_is

not_both : (rows : Rows) (a : Account) (kind : List ℕ) (k : ℕ) → AllNeedMore rows a kind k
    → IsLocked rows a kind → ⊥
not_both rows a kind k more locked = locked.none more.entry more.is_entry

no_truth : {A : Type 0} → IsTrue false → A
no_truth h = let no_match : false ≡ true = h in cc

abbrev Named : List OrderRow → SegmentFactsValue → (Account → Type 0) → Type 0
Named table s P = (account : Account) × NamesAccount table s account × P account

pub no_name : (table : List OrderRow) (s : SegmentFactsValue) (P : Account → Type 0)
    → ((account : Account) → NamesAccount table s account → ⊥) → IsTrue false ↔ Named table s P
no_name table s P none = (λ h. no_truth h, λ (a, names, p). absurd (none a names))

pub more_unlocked : (rows : Rows) (table : List OrderRow) (s : SegmentFactsValue) (kind : List ℕ) (k : ℕ)
    → Named table s (λ a. AllNeedMore rows a kind k)
    → IsTrue false ↔ Named table s (λ a. IsLocked rows a kind)
more_unlocked rows table s kind k (a, names, more) = (
  λ h. no_truth h,
  λ (b, also, locked). absurd (not_both rows a kind k more (subst (λ x. IsLocked rows x kind) (account_one table s b a also names) locked)),
)

pub locked_fits : (rows : Rows) (table : List OrderRow) (s : SegmentFactsValue) (kind : List ℕ) (k : ℕ)
    → Named table s (λ a. IsLocked rows a kind)
    → IsTrue false ↔ Named table s (λ a. AllNeedMore rows a kind k)
locked_fits rows table s kind k (a, names, locked) = (
  λ h. no_truth h,
  λ (b, also, more). absurd (not_both rows b kind k more (subst (λ x. IsLocked rows x kind) (account_one table s a b names also) locked)),
)

-- an account is read from the first six items
pub six_same : (form : AccountForm) (s : OwnedSegment)
    → account_named form (six_items s) ≡ account_named form (values_at s 2)
six_same Nameless s = refl
six_same National s = refl
six_same International s = refl
