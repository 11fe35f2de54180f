-- What a log keeps are whole messages, and none is a copy or a twin of the one before it.
use Rattle.std.proofs.Common.{ℕ, ◌+◌, List, [], ◌∷◌, ◌++◌, length, drop, sym, subst, inl, inr}
use Rattle.fints_rules_logs.specs.Finds.{FoundValue}
use Rattle.fints_rules_logs.specs.Kept.{more_twins, none_passed, one_changed, IsKept, IsKeptAfter, IsRelation, IsRelationToLast, IsSettled, IsTaken}
use Rattle.fints_rules_logs.specs.Scan.{AreFoundFrom, IsScan}
use Rattle.fints_rules_logs.specs.Standing.{EndsWell, IsSized, Stands, StandsAs}
use Rattle.fints_rules_logs.specs.declared.form.Form.{Form}
use Rattle.fints_rules_logs.specs.declared.form.Form.TheVariants.{Raw, Utf8, Base64}
use Rattle.fints_rules_logs.specs.declared.find.Find.{Find}
use Rattle.fints_rules_logs.specs.declared.find.Find.TheVariants.{Message, Misfit}
use Rattle.fints_rules_logs.specs.declared.keeping.Passed.{Passed}
use Rattle.fints_rules_logs.specs.declared.relating.Relation.{Relation}
use Rattle.fints_rules_logs.specs.declared.relating.Relation.TheVariants.{Copy, Unsealed, Sealed, Apart}

stands_as : (form : Form) (text message : List ℕ) (len : ℕ) → Stands form text message len
    → StandsAs form text message len
stands_as Raw text message len h = h
stands_as Utf8 text message len h = h.0
stands_as Base64 text message len h = h

pub record IsWhole (message : List ℕ) : Type 0 where
  pub sized : IsSized message
  pub ends : EndsWell message

abbrev pub AreWhole : List FoundValue → Type 0
AreWhole [] = Unit {0}
AreWhole (m ∷ ms) = IsWhole m.bytes × AreWhole ms

-- each is apart from the one before it
abbrev pub AreApart : List FoundValue → Type 0
AreApart [] = Unit {0}
AreApart (a ∷ []) = Unit {0}
AreApart (a ∷ b ∷ ms) = IsRelation a.bytes b.bytes Apart × AreApart (b ∷ ms)

-- ---- whole messages

whole_front : (xs ys : List FoundValue) → AreWhole (xs ++ ys) → AreWhole xs
whole_front [] ys h = tt
whole_front (x ∷ xs) ys h = (h.0, whole_front xs ys h.1)

whole_more : (xs : List FoundValue) (m : FoundValue) → AreWhole xs → IsWhole m.bytes → AreWhole (xs ++ m ∷ [])
whole_more [] m h is = (is, tt)
whole_more (x ∷ xs) m h is = (h.0, whole_more xs m h.1 is)

abbrev AreWholeFinds : List Find → Type 0
AreWholeFinds [] = Unit {0}
AreWholeFinds (Message m ∷ fs) = IsWhole m.bytes × AreWholeFinds fs
AreWholeFinds (Misfit x ∷ fs) = AreWholeFinds fs

found_whole : (file : List ℕ) (from to : ℕ) (fs : List Find) → AreFoundFrom file from fs to → AreWholeFinds fs
found_whole file from to [] h = tt
found_whole file from to (Message m ∷ fs) (len, at, before, is, more) =
    let h = stands_as m.form (drop m.start file) m.bytes len is in
    (record { sized = h.sized; ends = h.ends }, found_whole file (m.start + len) to fs more)
found_whole file from to (Misfit x ∷ fs) (len, at, before, is, more) =
    found_whole file (x.start + len) to fs more

-- ---- messages that are apart

apart_front : (xs ys : List FoundValue) → AreApart (xs ++ ys) → AreApart xs
apart_front [] ys h = tt
apart_front (a ∷ []) ys h = tt
apart_front (a ∷ b ∷ xs) ys h = (h.0, apart_front (b ∷ xs) ys h.1)

abbrev IsApartFromLast : List FoundValue → FoundValue → Type 0
IsApartFromLast [] m = Unit {0}
IsApartFromLast (a ∷ []) m = IsRelation a.bytes m.bytes Apart
IsApartFromLast (a ∷ b ∷ xs) m = IsApartFromLast (b ∷ xs) m

from_last : (front : List FoundValue) (last m : FoundValue) → IsRelation last.bytes m.bytes Apart
    → IsApartFromLast (front ++ last ∷ []) m
from_last [] last m h = h
from_last (f ∷ []) last m h = h
from_last (f ∷ g ∷ fs) last m h = from_last (g ∷ fs) last m h

apart_from_last : (base : List FoundValue) (m : FoundValue) → IsRelationToLast base m Apart
    → IsApartFromLast base m
apart_from_last base m (inl (front, last, split, is)) =
    subst (λ xs. IsApartFromLast xs m) (sym split) (from_last front last m is)
apart_from_last base m (inr (none, apart)) = subst (λ xs. IsApartFromLast xs m) (sym none) tt

apart_more : (xs : List FoundValue) (m : FoundValue) → AreApart xs → IsApartFromLast xs m
    → AreApart (xs ++ m ∷ [])
apart_more [] m h is = tt
apart_more (a ∷ []) m h is = (is, tt)
apart_more (a ∷ b ∷ xs) m h is = (h.0, apart_more (b ∷ xs) m h.1 is)

-- ---- what is kept

pub record AreGood (ms : List FoundValue) : Type 0 where
  pub whole : AreWhole ms
  pub apart : AreApart ms

good_front : (xs ys : List FoundValue) → AreGood (xs ++ ys) → AreGood xs
good_front xs ys h = record { whole = whole_front xs ys h.whole; apart = apart_front xs ys h.apart }

taken_good : (base after : List FoundValue) (passed now : Passed) (m : FoundValue) (r : Relation)
    → AreGood base → IsWhole m.bytes → IsRelationToLast base m r → IsTaken base passed m r after now
    → AreGood after
taken_good base after passed now m Copy h is related taken = subst AreGood (sym taken.0) h
taken_good base after passed now m Unsealed h is related taken = subst AreGood (sym taken.0) h
taken_good base after passed now m Sealed h is related taken = absurd taken
taken_good base after passed now m Apart h is related taken =
    subst AreGood (sym taken.0)
    (record {
      whole = whole_more base m h.whole is;
      apart = apart_more base m h.apart (apart_from_last base m related);
    })

settled_good : (kept after : List FoundValue) (passed now : Passed) (m : FoundValue) → AreGood kept
    → IsWhole m.bytes → IsSettled kept passed m after now → AreGood after
settled_good kept after passed now m good is h =
    taken_good h.base after (more_twins (length h.twins) passed) now m h.relation
    (good_front h.base h.twins (subst AreGood h.split good)) is h.related h.taken

kept_good : (kept after : List FoundValue) (passed now : Passed) (fs : List Find) → AreGood kept
    → AreWholeFinds fs → IsKeptAfter kept passed fs after now → AreGood after
kept_good kept after passed now [] good is h = subst AreGood (sym h.0) good
kept_good kept after passed now (Message m ∷ fs) good is (more, next, settled, h) =
    kept_good more after next now fs (settled_good kept more passed next m good is.0 settled) is.1 h
kept_good kept after passed now (Misfit x ∷ fs) good is h =
    kept_good kept after (one_changed passed) now fs good is h

pub kept_apart : (file : List ℕ) (finds : List Find) (kept : List FoundValue) (passed : Passed)
    → IsScan file finds → IsKept finds kept passed → AreGood kept
kept_apart file finds kept passed (to, found, none) h =
    kept_good [] kept none_passed passed finds (record { whole = tt; apart = tt })
    (found_whole file 0 to finds found) h
