-- The text of segments that can be written is the text of those segments, and a number is read from its digits.
use Rattle.std.proofs.Common.{◌≡◌, ℕ, zero, suc, ◌-◌, ◌^◌, ◌<◌, ◌≤◌, true, List, [], ◌∷◌, ◌++◌, length, map, drop, unwrap_or, Some, refl, ap, ◌∙◌, arith, replicate}
use Rattle.std.specs.List.{AllByRecursion}
use Rattle.std.specs.Fmt.{decimal}
use Rattle.std.specs.Str.{all_ascii_digits}
use Rattle.std.specs.Str.Parse.{digits_value}
use Rattle.std.proofs.lemmas.Bool.{le-leb}
use Rattle.std.proofs.lemmas.Fmt.{decimal_nonempty, digits_decimal, digits_value-decimal, length-decimal-le}
use Rattle.std.proofs.lemmas.Str.Parse.{IsNumeralModel, numerals_by_value, tells_all_ascii_digits}
use Rattle.fints_syntax.specs.Laws.{WrittenIsSpelled, WrittenHasValues, WrittenHasHead}
use Rattle.fints_syntax_segments.specs.Number.{number_in}
use Rattle.fints_syntax_segments.specs.Segment.{values_of, head_of, IsSegment}
use Rattle.fints_syntax_segments.specs.Written.{written_segment, written_tree, IsWritable}
use Rattle.fints_syntax_segments.specs.declared.item.OwnedSegment.{OwnedSegment}
use Rattle.fints_syntax_segments.specs.Number.{number_of}
use Rattle.fints_syntax.specs.Owned.{no_head, segment_of, segments_of}
use Rattle.fints_rules_messages.specs.Segments.{texts_of, IsText}
use Rattle.fints_wire.specs.Messages.{segments_text, twelve_digits}
use Rattle.fints_wire.proofs.Counting.{twelve_digits-len}

-- ---- segments

module _ (spelled : WrittenIsSpelled) (values : WrittenHasValues) (head : WrittenHasHead) where
  segment_is : (s : OwnedSegment) → IsWritable s → segment_of (written_tree s) ≡ s
  segment_is s w =
      let h : unwrap_or (head_of (values_of (written_tree s))) no_head ≡ s.head = ap (λ o. unwrap_or o no_head) (head s w) in
      let e : drop 1 (values_of (written_tree s)) ≡ s.elements = ap (drop 1) (values s) in
      λ i. record { head = h i; elements = e i }

  trees_are : (ss : List OwnedSegment) → AllByRecursion IsWritable ss
      → AllByRecursion IsSegment (map written_tree ss)
  trees_are [] h = tt
  trees_are (s ∷ ss) h = (spelled s h.0, trees_are ss h.1)

  values_are : (ss : List OwnedSegment) → AllByRecursion IsWritable ss
      → segments_of (map written_tree ss) ≡ ss
  values_are [] h = refl
  values_are (s ∷ ss) h = let one = segment_is s h.0 in let ih = values_are ss h.1 in cc

  text_is : (ss : List OwnedSegment) → segments_text ss ≡ texts_of (map written_tree ss)
  text_is [] = refl
  text_is (s ∷ ss) = ap (λ (t : List ℕ). written_segment s ++ t) (text_is ss)

  pub is_text : (ss : List OwnedSegment) → AllByRecursion IsWritable ss → IsText (segments_text ss) ss
  is_text ss h = record { trees = map written_tree ss; each = trees_are ss h; text = text_is ss; values = values_are ss h }

-- ---- numbers

abbrev AreDigits : List ℕ → Type 0
AreDigits ds = all_ascii_digits ds ≡ true

own : IsNumeralModel AreDigits (digits_value 10)
own = numerals_by_value AreDigits tells_all_ascii_digits

read_digits : (least most : ℕ) (bs : List ℕ) → AreDigits bs → least ≤ length bs → length bs ≤ most
    → number_in least most bs ≡ Some (digits_value 10 bs)
read_digits least most bs h low high = rw (h, le-leb least (length bs) low, le-leb (length bs) most high) refl

zeros_digits : (n : ℕ) (ds : List ℕ) → AreDigits ds → AreDigits (replicate n 48 ++ ds)
zeros_digits zero ds h = h
zeros_digits (suc n) ds h = zeros_digits n ds h

zeros_value : (n : ℕ) (ds : List ℕ) → digits_value 10 (replicate n 48 ++ ds) ≡ digits_value 10 ds
zeros_value zero ds = refl
zeros_value (suc n) ds = zeros_value n ds

pub number_read : (n : ℕ) → n < 10 ^ 9 → number_of (decimal n) ≡ Some n
number_read n small =
    read_digits 1 9 (decimal n) (digits_decimal own n (omega arith)) (decimal_nonempty n (omega arith))
    (length-decimal-le 9 n (omega arith) small (omega arith))
    ∙ ap Some (digits_value-decimal own n (omega arith))

pub size_read : (n : ℕ) → n < 10 ^ 12 → number_in 12 12 (twelve_digits n) ≡ Some n
size_read n small =
    let len = twelve_digits-len n small in
    read_digits 12 12 (twelve_digits n) (zeros_digits (12 - length (decimal n)) (decimal n) (digits_decimal own n (omega arith))) (omega arith) (omega arith)
    ∙ ap Some (zeros_value (12 - length (decimal n)) (decimal n) ∙ digits_value-decimal own n (omega arith))
