use Rattle.std.proofs.Common.{◌≡◌, map, take, Ok}
use Rattle.toml.specs.View.{view}
use Rattle.fints_script_rows.specs.Rows.{rows_from}
use Rattle.fints_script_rows.specs.declared.fault.Place.TheVariants as places
use Rattle.fints_script_templates.specs.Signers.{signer_in}
use Rattle.fints_script.proofs.rows.read_signers.Given as goal

abbrev pub invariant-loop-i : goal.invariant-loop-i
invariant-loop-i l =
    rows_from (λ n. places.Signer n) (λ i row. signer_in l.fields (take i (map view l.rows)) row) 0
    (take l.i (map view l.rows)) ≡ Ok l.signers.items
