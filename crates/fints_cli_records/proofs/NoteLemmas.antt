-- The note on a log, part by part.
use Rattle.std.proofs.Common.{◌≡◌, ℕ, List, ◌++◌, ap, ◌∙◌, append_assoc, Result, Ok, Err, OnOk}
use Rattle.fints_rules_logs.specs.Finds.{FoundValue}
use Rattle.fints_rules_logs.specs.declared.form.Form.TheVariants.{Raw, Utf8, Base64}
use Rattle.fints_cli_records.specs.Record.{count_of, forms_text}

-- what is written after a first part
pub then_forms : {T E : Type 0} (old middle new front : List ℕ) (r : Result T E) (kept : List FoundValue)
    (raw utf8 base64 : ℕ) → raw ≡ count_of Raw kept → utf8 ≡ count_of Utf8 kept → base64 ≡ count_of Base64 kept
    → middle ≡ old ++ front → OnOk r (new ≡ middle ++ forms_text raw utf8 base64)
    → OnOk r (new ≡ old ++ (front ++ forms_text (count_of Raw kept) (count_of Utf8 kept) (count_of Base64 kept)))
then_forms old middle new front (Ok v) kept raw utf8 base64 a b c first h =
    let rest = forms_text raw utf8 base64 in
    h ∙ ap (λ xs. xs ++ rest) first ∙ append_assoc old front rest
    ∙ ap (λ n. old ++ (front ++ forms_text n utf8 base64)) a
    ∙ ap (λ n. old ++ (front ++ forms_text (count_of Raw kept) n base64)) b
    ∙ ap (λ n. old ++ (front ++ forms_text (count_of Raw kept) (count_of Utf8 kept) n)) c
then_forms old middle new front (Err e) kept raw utf8 base64 a b c first h = tt

pub three_parts : {T E : Type 0} (old one two new x y z : List ℕ) (r : Result T E) → one ≡ old ++ x
    → two ≡ one ++ y → OnOk r (new ≡ two ++ z) → OnOk r (new ≡ old ++ (x ++ (y ++ z)))
three_parts old one two new x y z (Ok v) first second h =
    h ∙ ap (λ xs. xs ++ z) (second ∙ ap (λ xs. xs ++ y) first) ∙ ap (λ xs. xs ++ z) (append_assoc old x y)
    ∙ append_assoc old (x ++ y) z ∙ ap (λ xs. old ++ xs) (append_assoc x y z)
three_parts old one two new x y z (Err e) first second h = tt
