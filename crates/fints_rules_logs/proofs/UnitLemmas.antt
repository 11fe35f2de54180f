-- Units of a text, one after the other.
use Rattle.std.proofs.Common.{◌≡◌, ℕ, suc, ◌+◌, ◌-◌, ◌<◌, List, [], ◌∷◌, ◌++◌, refl, ap, sym, ◌∙◌, arith, append_assoc, Option, Some, None}
use Rattle.std.specs.Option.{option_and_then, option_map}
use Rattle.fints_rules_logs.specs.Forms.{first_units, unit_at}
use Rattle.fints_rules_logs.specs.declared.form.Form.{Form}

-- what is read, with these units in front
abbrev pub with_front : List ℕ → Option (List ℕ × List ℕ) → Option (List ℕ × List ℕ)
with_front us r = option_map (λ r. (us ++ r.0, r.1)) r

with_one : (us : List ℕ) (u : ℕ) (r : Option (List ℕ × List ℕ))
    → with_front us (option_map (λ r. (u ∷ r.0, r.1)) r) ≡ with_front (us ++ u ∷ []) r
with_one us u None = refl
with_one us u (Some (r, left)) = ap (λ xs. Some (xs, left)) (sym (append_assoc us (u ∷ []) r))

pub one_more : (form : Form) (n : ℕ) (us text rest : List ℕ) (u : ℕ) → unit_at form text ≡ Some (u, rest)
    → with_front us (first_units form (suc n) text) ≡ with_front (us ++ u ∷ []) (first_units form n rest)
one_more form n us text rest u e =
    ap (λ x. with_front us (option_and_then (λ u. option_map (λ r. (u.0 ∷ r.0, r.1)) (first_units form n u.1)) x)) e
    ∙ with_one us u (first_units form n rest)

pub no_more : (form : Form) (n : ℕ) (us text : List ℕ) → unit_at form text ≡ None
    → with_front us (first_units form (suc n) text) ≡ None
no_more form n us text e =
    ap (λ x. with_front us (option_and_then (λ u. option_map (λ r. (u.0 ∷ r.0, r.1)) (first_units form n u.1)) x)) e

pub none_in_front : (r : Option (List ℕ × List ℕ)) → with_front [] r ≡ r
none_in_front None = refl
none_in_front (Some r) = refl

pub left_over : (n k : ℕ) → k < n → n - k ≡ suc (n - (k + 1))
left_over n k lt = omega arith
