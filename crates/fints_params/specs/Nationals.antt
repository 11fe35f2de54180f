-- An account as it is named within its country.
use Rattle.std.specs.Prelude.{ℕ, List}

-- number, subaccount, country and bank code; what is absent is empty
pub record NationalValue : Type 0 where
  pub number : List ℕ
  pub subaccount : List ℕ
  pub country : List ℕ
  pub bank : List ℕ
