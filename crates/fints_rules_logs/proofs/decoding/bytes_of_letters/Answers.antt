use Rattle.std.proofs.Common.{◌≡◌, ◌+◌, List, ℕ, ◌++◌, length, take, refl, ap, sym, ◌∙◌}
use Rattle.std.specs.Prelude.{replicate, Vec}
use Rattle.std.specs.declared.alloc.Global.{Global}
use Rattle.base64.specs.Engines.{standard}
use Rattle.base64.specs.GeneralPurpose.{encode_of}
use Rattle.base64.specs.Rfc4648.{padding_len}
use Rattle.fints_rules_logs.specs.Forms.{AreLettersOf}
use Rattle.fints_rules_logs.proofs.FrontLemmas.{letters_some, none_weaker, some_weaker, whole_len}
use Rattle.fints_rules_logs.proofs.decoding.bytes_of_letters.Goals as goal

pub returns-in-Ok-clause-some : goal.returns-in-Ok-clause-some
returns-in-Ok-clause-some c =
    let bytes : List ℕ = c.in-Ok.bytes.items in
    let letters : List ℕ = c.args.letters.items in
    let len = c.args.len in
    let text : letters ++ replicate (padding_len len) 65 ≡ encode_of standard bytes =
    ap (λ n. letters ++ replicate n 65) (sym c.padding_len-padding.ensures) ∙ sym c.in_ok-filled.ensures
    ∙ sym c.as_slice.ensures.value ∙ c.in-Ok.ensures.exact (refl, refl) in
    some_weaker (λ (v : Vec ℕ Global). (v.items ≡ take len bytes) × (length bytes ≡ len + c.padding_len-padding.result))
    (λ v. AreLettersOf v.items letters × (length v.items ≡ len)) c.front_of.result
    (λ v h.
    letters_some v.items bytes letters len c.padding_len-padding.result c.padding_len-padding.ensures text
    c.in-Ok.ensures.bytes h.0 h.1)
    c.front_of.ensures.some

pub returns-in-Ok-clause-none : goal.returns-in-Ok-clause-none
returns-in-Ok-clause-none c =
    let bytes : List ℕ = c.in-Ok.bytes.items in
    let letters : List ℕ = c.args.letters.items in
    let len = c.args.len in
    let text : letters ++ replicate (padding_len len) 65 ≡ encode_of standard bytes =
    ap (λ n. letters ++ replicate n 65) (sym c.padding_len-padding.ensures) ∙ sym c.in_ok-filled.ensures
    ∙ sym c.as_slice.ensures.value ∙ c.in-Ok.ensures.exact (refl, refl) in
    none_weaker (length bytes ≡ len + c.padding_len-padding.result → ⊥)
    ((other : List ℕ) → length other ≡ len → AreLettersOf other letters → ⊥) c.front_of.result
    (λ none other is h.
    none
    (whole_len bytes other letters len text c.in-Ok.ensures.bytes is h
    ∙ ap (λ n. len + n) (sym c.padding_len-padding.ensures)))
    c.front_of.ensures.none
