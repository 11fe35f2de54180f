-- A step of the loop that writes codes.
use Rattle.std.proofs.Common.{ℕ, ◌+◌, ◌<◌, ◌≡◌, List, [], ◌∷◌, ◌++◌, length, get_or, take, ap, sym, ◌∙◌}
use Rattle.std.proofs.lemmas.List.{append_assoc, append-nil}
use Rattle.std.proofs.lemmas.Grind.{flat_map-append}
use Rattle.fints_syntax_texts.specs.LineLaws.{taken_more}
use Rattle.fints_script_cases.specs.Patterns.{code_text}
use Rattle.fints_script_cases.specs.Cases.{codes_text}

-- one code more
pub codes_more : (front answer : List ℕ) (i code : ℕ) (out new : List ℕ) → i < length answer
    → code ≡ get_or answer i code → out ≡ front ++ codes_text (take i answer)
    → new ≡ out ++ (32 ∷ code_text code) → new ≡ front ++ codes_text (take (i + 1) answer)
codes_more front answer i code out new within is h e =
    let inner : codes_text (take i answer ++ code ∷ []) ≡ codes_text (take i answer) ++ (32 ∷ code_text code) =
    flat_map-append (λ (c : ℕ). 32 ∷ code_text c) (take i answer) (code ∷ [])
    ∙ ap (λ (t : List ℕ). codes_text (take i answer) ++ t) (append-nil (32 ∷ code_text code))
    in
    e
    ∙ (ap (λ (t : List ℕ). t ++ (32 ∷ code_text code)) h
    ∙ (append_assoc front (codes_text (take i answer)) (32 ∷ code_text code)
    ∙ ap (λ (t : List ℕ). front ++ t)
    (sym inner ∙ ap codes_text (sym (taken_more answer i code within is)))))
