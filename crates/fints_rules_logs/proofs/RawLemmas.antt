-- Raw messages at the front of a text.
use Rattle.std.proofs.Common.{◌≡◌, ℕ, ◌≤◌, List, length, drop, take, refl, ap, sym, subst, ◌∙◌, arith, Some}
use Rattle.std.proofs.lemmas.List.{length-drop, length-take-le}
use Rattle.fints_rules_logs.specs.Forms.{first_units}
use Rattle.fints_rules_logs.specs.Standing.{EndsWell, SaysSize, StandsAs}
use Rattle.fints_rules_logs.specs.declared.form.Form.TheVariants.{Raw}
use Rattle.fints_rules_logs.proofs.Sizes.{one_size}
use Rattle.fints_rules_logs.proofs.WrittenLemmas.{raw_within}
use Rattle.fints_rules_logs.proofs.WrittenLemmas.{raw_units, same_written}

pub record IsRaw (text message : List ℕ) (size : ℕ) : Type 0 where
  pub within : size ≤ length text
  pub is_front : message ≡ take size text
  pub says : SaysSize message size

-- a raw message of a text that says this size is its front
pub raw_is : (text message : List ℕ) (size len : ℕ) → SaysSize text size → StandsAs Raw text message len
    → IsRaw text message size
raw_is text message size len says h =
    let n : length message ≡ size = one_size text (length message) size h.begins says in
    let written : first_units Raw (length message) text ≡ Some (message, h.left) =
    subst (λ xs. first_units Raw (length message) xs ≡ Some (message, h.left)) (sym h.own_is) h.written in
    let within : length message ≤ length text = raw_within (length message) text message h.left written in
    let same =
    same_written Raw text message (take (length message) text) h.left (drop (length message) text)
    (sym (length-take-le (length message) text within)) written
    (ap (λ k. first_units Raw k text) (length-take-le (length message) text within)
    ∙ raw_units (length message) text within) in
    record {
      within = omega (arith, n, within);
      is_front = same.bytes ∙ ap (λ k. take k text) n;
      says = subst (SaysSize message) n h.sized;
    }

pub raw_stands : (text message : List ℕ) (size : ℕ) → SaysSize text size → size ≤ length text
    → message ≡ take size text → SaysSize message size → EndsWell message
    → StandsAs Raw text message (length message)
raw_stands text message size says within is sized ends =
    let n : length message ≡ size = ap length is ∙ length-take-le size text within in
    record {
      begins = subst (SaysSize text) (sym n) says;
      own = text;
      own_is = refl;
      left = drop size text;
      written =
          ap (λ k. first_units Raw k text) n ∙ raw_units size text within
          ∙ ap (λ m. Some (m, drop size text)) (sym is);
      len_is = omega (arith, n, within, length-drop size text);
      sized = subst (SaysSize message) (sym n) sized;
      ends = ends;
    }
