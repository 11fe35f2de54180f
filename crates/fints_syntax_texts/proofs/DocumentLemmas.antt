-- When bytes are a document.
use Rattle.std.proofs.Common.{◌≡◌, ℕ, ◌<◌, ◌≤◌, Bool, true, false, ◌&&◌, nat_le, cond, List, [], ◌∷◌, ap, string_bytes, length, Option, Some, None, refl, arith}
use Rattle.std.proofs.lemmas.Bool.Decides.{nat_tests}
use Rattle.std.proofs.lemmas.Str.{IsUtf8-from_is_utf8, is_utf8-from_IsUtf8}
use Rattle.std.specs.Str.{IsUtf8, is_utf8}
use Rattle.toml.specs.Data.{Members}
use Rattle.toml.specs.Parse.{parse_document}
use Rattle.fints_syntax_texts.specs.Document.{document, is_among, only_keys}
use Rattle.std.specs.List.{list_all}
use Rattle.std.specs.Map.{keys_of}
use Rattle.toml.proofs.Views.{Entry}
use Rattle.toml.specs.View.{members_view}

pub document_some : (text : List ℕ) (ms : Members) → length text ≤ 1048576 → IsUtf8 text
    → parse_document text ≡ Some ms → document text ≡ Some ms
unfolding document
document_some text ms short utf8 parsed = rw (is_utf8-from_IsUtf8 text utf8, parsed) (grind (arith, nat_tests))

pub document_long : (text : List ℕ) → 1048576 < length text → document text ≡ None
unfolding document
document_long text long = grind (arith, nat_tests)

test_false : (b c : Bool) (o : Option Members) → (b ≡ true → o ≡ None) → cond (c && b) o None ≡ None
test_false true true o h = h refl
test_false true false o h = refl
test_false false true o h = refl
test_false false false o h = refl

pub document_none : (text : List ℕ) → (IsUtf8 text → parse_document text ≡ None) → document text ≡ None
unfolding document
document_none text h = test_false (is_utf8 text) (nat_le (length text) 1048576) (parse_document text) (λ e. h (IsUtf8-from_is_utf8 text e))

-- what the keys of a map say of the members that it denotes
pub only_keys_view : (names : List (List ℕ)) (es : List Entry)
    → list_all (λ k. is_among names (string_bytes k)) (keys_of es) ≡ only_keys names (members_view es)
only_keys_view names [] = refl
only_keys_view names (e ∷ es) = ap (λ b. is_among names (string_bytes e.0) && b) (only_keys_view names es)
