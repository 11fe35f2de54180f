-- A name is its characters, padded with zeros.
use Rattle.std.specs.Prelude.{◌≡◌, ℕ, ◌+◌, ◌-◌, List, ◌++◌, length, drop, replicate}
use Rattle.std.proofs.Common.{ap, subst, arith, sym, ◌∙◌}
use Rattle.std.proofs.lemmas.List.{length-append, length-replicate, drop-replicate}
use Rattle.std.proofs.Math.Seq.{drop-append_seam, take-append_seam}
use Rattle.fints_script_fields.specs.Names.{IsName}
use Rattle.fints_script_fields.specs.NameFields.{IsPadded}
use Rattle.fints_script_fields.proofs.NameLemmas.{name_is_short}

pub padded : (text : List ℕ) → IsName text
    → IsPadded (record { bytes = text ++ drop (length text) (replicate 40 0); len = length text })
padded text h =
    let short = name_is_short text h in
    let zeros : drop (length text) (replicate 40 0) ≡ replicate (40 - length text) 0 = drop-replicate (length text) 40 0 in
    record {
      short = short;
      wide = length-append text _ ∙ ap (λ (n : ℕ). length text + n) (ap length zeros ∙ length-replicate (40 - length text) 0) ∙ omega (arith, short);
      padded = drop-append_seam text _ ∙ zeros;
      name = subst IsName (sym (take-append_seam text _)) h;
    }
