-- What each name has, also for the proofs of the crates above.
use Rattle.std.proofs.Common.{◌≡◌, ◌≢◌, ℕ, ◌≤◌, true, false, ◌&&◌, List, length, All, ap, sym, ◌∙◌, arith}
use Rattle.std.specs.Prelude.{nat_le, nat_lt}
use Rattle.std.specs.List.{list_all}
use Rattle.std.proofs.lemmas.Bool.{and_parts, false≢true}
use Rattle.std.proofs.lemmas.Bool.Decides.{nat_tests}
use Rattle.std.proofs.lemmas.List.Sums.{AllPass-from_list_all}
use Rattle.fints_script_fields.specs.Names.{IsName, is_name_byte}

pub name_is_short : (name : List ℕ) → IsName name → length name ≤ 40
name_is_short name h =
    let bounds = (and_parts (nat_lt 0 (length name) && nat_le (length name) 40) (list_all is_name_byte name) h).0 in
    let most : nat_le (length name) 40 ≡ true = (and_parts (nat_lt 0 (length name)) (nat_le (length name) 40) bounds).1 in
    grind (arith, nat_tests)

-- it hasn't a byte that no name has
pub name_without : (byte : ℕ) (name : List ℕ) → is_name_byte byte ≡ false → IsName name
    → All (λ x. x ≢ byte) name
name_without byte name none h =
    let bytes = (and_parts (nat_lt 0 (length name) && nat_le (length name) 40) (list_all is_name_byte name) h).1 in
    λ k d within e. false≢true (sym none ∙ ap is_name_byte (sym e) ∙ AllPass-from_list_all is_name_byte name bytes k d within)
