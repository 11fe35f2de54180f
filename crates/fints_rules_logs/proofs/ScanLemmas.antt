-- A file, as far as it is scanned.
use Rattle.std.proofs.Common.{◌≡◌, ℕ, ◌+◌, ◌<◌, ◌≤◌, List, [], ◌∷◌, ◌++◌, length, drop, refl, ap, sym, subst, arith, inl, inr}
use Rattle.std.proofs.lemmas.Bool.{cases_lt}
use Rattle.std.proofs.lemmas.List.{length-append}
use Rattle.fints_rules_logs.specs.Scan.{AreFoundFrom, IsFind, IsScan, NothingFrom, start_of}
use Rattle.fints_rules_logs.specs.Standing.{IsOwn, NothingAt, Stands, StandsAs}
use Rattle.fints_rules_logs.specs.declared.find.Find.{Find}
use Rattle.fints_rules_logs.specs.declared.form.Form.{Form}
use Rattle.fints_rules_logs.specs.declared.form.Form.TheVariants.{Raw, Utf8, Base64}

own_within : (form : Form) (text own : List ℕ) → IsOwn form text own → length own ≤ length text
own_within Raw text own h = omega (arith, ap length h)
own_within Utf8 text own h = omega (arith, ap length h.split, length-append own h.rest)
own_within Base64 text own h = omega (arith, ap length h.split, length-append own h.rest)

as_within : (form : Form) (text message : List ℕ) (len : ℕ) → StandsAs form text message len → len ≤ length text
as_within form text message len h = omega (arith, own_within form text h.own h.own_is, h.len_is)

-- a message ends within its text
pub stands_within : (form : Form) (text message : List ℕ) (len : ℕ) → Stands form text message len
    → len ≤ length text
stands_within Raw text message len h = as_within Raw text message len h
stands_within Utf8 text message len h = as_within Utf8 text message len h.0
stands_within Base64 text message len h = as_within Base64 text message len h

found_more : (file : List ℕ) (from mid len : ℕ) (fs : List Find) (f : Find) → AreFoundFrom file from fs mid
    → mid ≤ start_of f → NothingFrom file mid (start_of f) → IsFind file f len
    → AreFoundFrom file from (fs ++ f ∷ []) (start_of f + len)
found_more file from mid len [] f h le nothing is =
    (len, subst (λ n. n ≤ start_of f) (sym h) le, subst (λ n. NothingFrom file n (start_of f)) (sym h) nothing, is, refl)
found_more file from mid len (g ∷ gs) f (n, at, before, isg, more) le nothing is =
    (n, at, before, isg, found_more file (start_of g + n) mid len gs f more le nothing is)

-- these are found up to an offset, and from there on nothing begins before this one
pub record IsScannedTo (file : List ℕ) (start : ℕ) (finds : List Find) : Type 0 where
  pub to : ℕ
  pub found : AreFoundFrom file 0 finds to
  pub before : to ≤ start
  pub nothing : NothingFrom file to start
  pub within : start ≤ length file

pub scanned_none : (file : List ℕ) → IsScannedTo file 0 []
scanned_none file = record {
  to = 0;
  found = refl;
  before = omega arith;
  nothing = λ at le lt. absurd (omega (arith, lt));
  within = omega arith;
}

pub nothing_more : (file : List ℕ) (start : ℕ) (finds : List Find) → IsScannedTo file start finds
    → start < length file → NothingAt (drop start file) → IsScannedTo file (start + 1) finds
nothing_more file start finds h lt none = record {
  to = h.to;
  found = h.found;
  before = omega (arith, h.before);
  nothing =
      λ at le below.
      elim (cases_lt at start) [
        | inl earlier ↦ h.nothing at le earlier
        | inr later ↦
            let same : start ≡ at = omega (arith, below, later) in
            subst (λ n. NothingAt (drop n file)) same none
      ];
  within = omega (arith, lt);
}

pub one_more_find : (file : List ℕ) (start len : ℕ) (finds : List Find) (f : Find) → IsScannedTo file start finds
    → start_of f ≡ start → IsFind file f len → start + len ≤ length file
    → IsScannedTo file (start + len) (finds ++ f ∷ [])
one_more_find file start len finds f h at is within = record {
  to = start_of f + len;
  found =
      found_more file 0 h.to len finds f h.found (omega (arith, h.before, at))
      (subst (λ n. NothingFrom file h.to n) (sym at) h.nothing) is;
  before = omega (arith, at);
  nothing = λ n le lt. absurd (omega (arith, le, lt, at));
  within = within;
}

pub scanned_all : (file : List ℕ) (start : ℕ) (finds : List Find) → IsScannedTo file start finds
    → length file ≤ start → IsScan file finds
scanned_all file start finds h le =
    (h.to, h.found, λ at from below. h.nothing at from (omega (arith, below, le)))
