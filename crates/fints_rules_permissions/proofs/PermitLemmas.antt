-- What the least need of an account's entries permits.
use Rattle.std.proofs.Common.{◌≡◌, ℕ, ◌<◌, ◌≤◌, List, Some, None, arith}
use Rattle.fints_params.specs.Parameters.{Rows}
use Rattle.fints_params.specs.declared.rows.Usage.TheVariants as usage
use Rattle.fints_rules_permissions.specs.Accounts.{Account}
use Rattle.fints_rules_permissions.specs.Permits.{AllNeedMore, IsLeastNeed, IsLocked}

pub permits : (rows : Rows) (account : Account) (kind : List ℕ) (k n : ℕ)
    → IsLeastNeed rows account kind (Some n) → n ≤ k
    → (IsLocked rows account kind → ⊥) × (AllNeedMore rows account kind k → ⊥)
permits rows account kind k n ((e, is, same), least) le = (λ locked. locked.none e is, λ more. let lt = more.need e is in omega arith)

pub more_needed : (rows : Rows) (account : Account) (kind : List ℕ) (k n : ℕ)
    → IsLeastNeed rows account kind (Some n) → k < n → AllNeedMore rows account kind k
more_needed rows account kind k n ((e, is, same), least) lt = record { entry = e; is_entry = is; need = λ x i. let le = least x i in omega arith }

pub unsaid : (rows : Rows) (account : Account) (kind : List ℕ) (k : ℕ) → IsLeastNeed rows account kind None
    → rows.usage ≡ usage.Unsaid → (IsLocked rows account kind → ⊥) × (AllNeedMore rows account kind k → ⊥)
unsaid rows account kind k none is = (λ locked. let l = locked.locked in cc, λ more. none more.entry more.is_entry)
