-- A file is one log at most, has one refusal at most, and never both.
use Rattle.std.proofs.Common.{◌≡◌, ℕ, ◌<◌, List, [], ◌∷◌, ◌++◌, length, get_or, refl, ap, sym, subst, ◌∙◌, arith, inl, inr}
use Rattle.std.proofs.Math.Seq.{get_or-append_seam}
use Rattle.std.proofs.lemmas.Bool.{cases_lt}
use Rattle.std.proofs.lemmas.List.{length-append}
use Rattle.fints_rules_logs.specs.Finds.{FoundValue, UnfitValue}
use Rattle.fints_rules_logs.specs.Kept.{IsFirstLost, IsKept, IsLost, LogValue, NoneLost}
use Rattle.fints_rules_logs.specs.Laws.{NoLogAtFault, OneLog, OneLogFault}
use Rattle.fints_rules_logs.specs.Scan.{IsScan, start_of}
use Rattle.fints_rules_logs.specs.declared.fault.LogFault.TheVariants.{Memory, NoMessage, NotAMessage}
use Rattle.fints_rules_logs.specs.declared.find.Find.{Find}
use Rattle.fints_rules_logs.specs.declared.find.Find.TheVariants.{Misfit}
use Rattle.fints_rules_logs.specs.declared.keeping.Passed.{Passed}
use Rattle.fints_rules_logs.proofs.KeptLaws.{one_kept}
use Rattle.fints_rules_logs.proofs.ScanLaws.{one_scan}

-- ---- what is lost

lost_within : (finds front back : List Find) (u : UnfitValue) → IsLost finds front u back
    → length front < length finds
lost_within finds front back u h =
    omega (arith, ap length h.split, length-append front (Misfit u ∷ back))

one_place : (finds front back other more : List Find) (u v : UnfitValue) → IsLost finds front u back
    → IsLost finds other v more → length front ≡ length other → u.start ≡ v.start
one_place finds front back other more u v x y len =
    let same : Misfit u ≡ Misfit v =
    sym (get_or-append_seam front (Misfit u) back (Misfit u))
    ∙ ap (λ xs. get_or xs (length front) (Misfit u)) (sym x.split ∙ y.split)
    ∙ ap (λ n. get_or (other ++ Misfit v ∷ more) n (Misfit u)) len
    ∙ get_or-append_seam other (Misfit v) more (Misfit u) in
    ap start_of same

one_first_lost : (finds : List Find) (m n : ℕ) → IsFirstLost finds m → IsFirstLost finds n → m ≡ n
one_first_lost finds m n x y = elim (cases_lt (length x.front) (length y.front)) [
  | inl lt ↦ absurd (y.before x.front x.back x.lost (omega arith) lt x.is)
  | inr ge ↦ elim (cases_lt (length y.front) (length x.front)) [
    | inl lt ↦ absurd (x.before y.front y.back y.lost (omega arith) lt y.is)
    | inr le ↦
        sym x.offset_is
        ∙ one_place finds x.front x.back y.front y.back x.lost y.lost x.is y.is (omega (arith, ge, le))
        ∙ y.offset_is
  ]
]

none_is_lost : (finds : List Find) (n : ℕ) → NoneLost finds 0 (length finds) → IsFirstLost finds n → ⊥
none_is_lost finds n none h =
    none h.front h.back h.lost (omega arith) (lost_within finds h.front h.back h.lost h.is) h.is

nothing_lost : (n : ℕ) → IsFirstLost [] n → ⊥
nothing_lost n h = omega (arith, lost_within [] h.front h.back h.lost h.is)

-- ---- logs

same_log : (a b : LogValue) → a.kept ≡ b.kept → a.passed ≡ b.passed → a ≡ b
same_log a b x y =
    ap (λ ms. record a { kept = ms }) x ∙ ap (λ (p : Passed). record { kept = b.kept; passed = p }) y

pub one_log : OneLog
one_log file a b h g =
    let finds : g.finds ≡ h.finds = one_scan file g.finds h.finds g.scan h.scan in
    let same =
    one_kept h.finds a.kept b.kept a.passed b.passed h.is_kept
    (subst (λ fs. IsKept fs b.kept b.passed) finds g.is_kept) in
    same_log a b same.kept same.passed

-- ---- refusals

no_message_lost : (file : List ℕ) (finds : List Find) (n : ℕ) → IsScan file [] → IsScan file finds
    → IsFirstLost finds n → ⊥
no_message_lost file finds n none scan h =
    nothing_lost n (subst (λ fs. IsFirstLost fs n) (one_scan file finds [] scan none) h)

pub one_log_fault : OneLogFault
one_log_fault file Memory g h i some other = absurd (some refl)
one_log_fault file f Memory h i some other = absurd (other refl)
one_log_fault file NoMessage NoMessage h i some other = refl
one_log_fault file NoMessage (NotAMessage n) h (finds, scan, lost) some other =
    absurd (no_message_lost file finds n h scan lost)
one_log_fault file (NotAMessage m) NoMessage (finds, scan, lost) i some other =
    absurd (no_message_lost file finds m i scan lost)
one_log_fault file (NotAMessage m) (NotAMessage n) (finds, scan, lost) (fs, again, first) some other =
    ap (λ (k : ℕ). NotAMessage k)
    (one_first_lost finds m n lost
    (subst (λ xs. IsFirstLost xs n) (one_scan file fs finds again scan) first))

nothing_kept : (kept : List FoundValue) (passed : Passed) → IsKept [] kept passed → kept ≡ []
nothing_kept kept passed h = h.0

pub no_log_at_fault : NoLogAtFault
no_log_at_fault file log Memory h i other = other refl
no_log_at_fault file log NoMessage h i other =
    h.some
    (nothing_kept log.kept log.passed
    (subst (λ fs. IsKept fs log.kept log.passed) (one_scan file h.finds [] h.scan i) h.is_kept))
no_log_at_fault file log (NotAMessage n) h (finds, scan, lost) other =
    none_is_lost h.finds n h.none_lost
    (subst (λ fs. IsFirstLost fs n) (one_scan file finds h.finds scan h.scan) lost)
