-- A top with a fault.
use Rattle.std.proofs.Common.{◌≡◌, ◌∙◌, List, [], codes, true, Err, Result, ap}
use Rattle.toml.specs.Data.{Data, Members, get_member}
use Rattle.fints_syntax_texts.specs.Document.{only_keys}
use Rattle.fints_script_rows.specs.PartLaws.{seen_both, three_keys}
use Rattle.fints_script_rows.specs.Parts.{both, may, must, seen}
use Rattle.fints_script_rows.specs.declared.fault.FaultKind.{FaultKind}
use Rattle.fints_script_rows.specs.declared.limits.TheConstants.{MAX_FIELDS, MAX_SIGNERS}
use Rattle.fints_script.specs.Scripts.{rows_in, step_rows, top_in, top_keys, top_value}

pub no_top : {V : Type 0} (see : V → List Data) (a b d : Result V FaultKind) (ms : Members) (kind : FaultKind)
    → only_keys top_keys ms ≡ true
    → seen see a ≡ may ms (codes "field") [] (rows_in MAX_FIELDS)
    → seen see b ≡ may ms (codes "signer") [] (rows_in MAX_SIGNERS)
    → seen see d ≡ must ms (codes "step") step_rows → both (both a b) d ≡ Err kind → top_in ms ≡ Err kind
unfolding top_in
no_top {V = V} see a b d ms kind keys e f g h =
    let of = top_value (get_member (codes "seal") ms) in
    let all =
    ap (λ p. both p (seen see d)) (seen_both see see a b)
    ∙ seen_both (λ (z : V × V). (see z.0, see z.1)) see (both a b) d
    ∙ ap (seen (λ (z : (V × V) × V). ((see z.0.0, see z.0.1), see z.1))) h in
    rw (keys, ← e, ← f, ← g)
    (three_keys of (seen see a) (seen see b) (seen see d)
    ∙ ap (seen (λ (v : (List Data × List Data) × List Data). of v.0.0 v.0.1 v.1)) all)
