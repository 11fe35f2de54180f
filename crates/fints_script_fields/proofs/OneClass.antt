-- Classes of the same alphabet and bounds, or of the same listed values, are the same.
use Rattle.std.proofs.Common.{◌≡◌, ◌≢◌, ◌≤◌, ◌∙◌, ℕ, List, [], length, map, All, ap, sym}
use Rattle.std.specs.List.{AllPairs}
use Rattle.std.proofs.Props.{props}
use mathlib.Core.HLevel.{is_prop→PathP}
use Rattle.fints_script_fields.specs.Lengths.{text_len}
use Rattle.fints_script_fields.specs.Listed.{IsAccountList, IsShort, account_len, first_longest, greatest}
use Rattle.fints_script_fields.specs.declared.counted.Bin.{Bin}
use Rattle.fints_script_fields.specs.declared.counted.Text.{Text}
use Rattle.fints_script_fields.specs.declared.listing.Account.{Account}
use Rattle.fints_script_fields.specs.declared.listing.OneOf.{OneOf}

pub one_text : (c d : Text) → c.alphabet ≡ d.alphabet → c.min ≡ d.min → c.max ≡ d.max → c ≡ d
one_text c d same low high = λ i. record {
  alphabet = same i;
  min = low i;
  max = high i;
  ordered = is_prop→PathP (λ j. low j ≤ high j) (λ j. hlevel props) c.ordered d.ordered i;
  short = is_prop→PathP (λ j. high j ≤ 10000) (λ j. hlevel props) c.short d.short i;
}

pub one_bin : (c d : Bin) → c.min ≡ d.min → c.max ≡ d.max → c ≡ d
one_bin c d low high = λ i. record {
  min = low i;
  max = high i;
  ordered = is_prop→PathP (λ j. low j ≤ high j) (λ j. hlevel props) c.ordered d.ordered i;
  short = is_prop→PathP (λ j. high j ≤ 10000) (λ j. hlevel props) c.short d.short i;
  some = is_prop→PathP (λ j. 1 ≤ low j) (λ j. hlevel props) c.some d.some i;
}

-- what is kept beside the listed values is computed from them
pub one_oneof : (c d : OneOf) → c.values ≡ d.values → c ≡ d
one_oneof c d same =
    let longest : c.most_written ≡ d.most_written = c.most ∙ ap (λ (vs : List (List ℕ)). text_len (first_longest text_len [] vs)) same ∙ sym d.most in
    λ i. record {
      values = same i;
      most_written = longest i;
      some = is_prop→PathP (λ j. 1 ≤ length (same j)) (λ j. hlevel props) c.some d.some i;
      few = is_prop→PathP (λ j. length (same j) ≤ 100) (λ j. hlevel props) c.few d.few i;
      short = is_prop→PathP (λ j. All IsShort (same j)) (λ j. hlevel props) c.short d.short i;
      distinct = is_prop→PathP (λ j. AllPairs (λ s t. s ≢ t) (same j)) (λ j. hlevel props) c.distinct d.distinct i;
      most = is_prop→PathP (λ j. longest j ≡ text_len (first_longest text_len [] (same j))) (λ j. hlevel props) c.most d.most i;
    }

pub one_account : (c d : Account) → c.values ≡ d.values → c ≡ d
one_account c d same =
    let longest : c.most_written ≡ d.most_written =
    c.most ∙ ap (λ (vs : List (List (List ℕ))). account_len (first_longest account_len [] vs)) same
    ∙ sym d.most in
    let largest : c.most_items ≡ d.most_items = c.items ∙ ap (λ (vs : List (List (List ℕ))). greatest (map length vs)) same ∙ sym d.items in
    λ i. record {
      values = same i;
      most_written = longest i;
      most_items = largest i;
      some = is_prop→PathP (λ j. 1 ≤ length (same j)) (λ j. hlevel props) c.some d.some i;
      few = is_prop→PathP (λ j. length (same j) ≤ 100) (λ j. hlevel props) c.few d.few i;
      each = is_prop→PathP (λ j. All IsAccountList (same j)) (λ j. hlevel props) c.each d.each i;
      distinct = is_prop→PathP (λ j. AllPairs (λ a b. a ≢ b) (same j)) (λ j. hlevel props) c.distinct d.distinct i;
      most = is_prop→PathP (λ j. longest j ≡ account_len (first_longest account_len [] (same j))) (λ j. hlevel props) c.most d.most i;
      items = is_prop→PathP (λ j. largest j ≡ greatest (map length (same j))) (λ j. hlevel props) c.items d.items i;
    }
