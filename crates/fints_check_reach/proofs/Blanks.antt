-- Tables of nothing, and the first number that is put into one.
use Rattle.std.proofs.Common.{ℕ, zero, suc, ◌<◌, ◌≡◌, Some, None, [], replicate, set, refl, sym, arith}
use Rattle.std.proofs.lemmas.Option.{same_Some}
use Rattle.fints_check_reach.specs.Numbers.{Has}

-- a list of nothing has no number
pub none_in_blank : (count n e : ℕ) → Has (replicate count None) n e → ⊥
none_in_blank count zero e h = cc
none_in_blank zero (suc k) e h = cc
none_in_blank (suc count) (suc zero) e h = absurd cc
none_in_blank (suc count) (suc (suc k)) e h = none_in_blank count (suc k) e h

pub none_in_nil : (n e : ℕ) → Has [] n e → ⊥
none_in_nil zero e h = cc
none_in_nil (suc k) e h = cc

-- with one number put first, it has only that
pub first_there : (count m : ℕ) → 0 < count → Has (set (replicate count None) 0 (Some m)) 1 m
first_there zero m h = absurd (omega (arith, h))
first_there (suc count) m h = refl

pub first_alone : (count m n e : ℕ) → Has (set (replicate count None) 0 (Some m)) n e → (n ≡ 1) × (e ≡ m)
first_alone count m zero e h = absurd cc
first_alone zero m (suc k) e h = absurd cc
first_alone (suc count) m (suc zero) e h = (refl, sym (same_Some m e (same_Some (Some m) (Some e) h)))
first_alone (suc count) m (suc (suc k)) e h = absurd (none_in_blank count (suc k) e h)
