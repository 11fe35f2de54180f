-- What a loop over a step's branches has kept for their targets so far.
use Rattle.std.proofs.Common.{ℕ, ◌+◌, ◌-◌, ◌<◌, ◌≤◌, ◌≡◌, ◌⊎◌, Option, Some, List, length, set, refl, ap, sym, subst, ◌∙◌, arith, inl, inr}
use Rattle.fints_script.specs.Steps.{StepValue}
use Rattle.fints_script_cases.specs.declared.answers.Target.{Target}
use Rattle.fints_script_cases.specs.declared.answers.Target.TheVariants.{Step}
use Rattle.std.proofs.lemmas.Bool.{cases_eq, cases_order}
use Rattle.std.proofs.lemmas.List.{length-set}
use Rattle.fints_check_reach.specs.Leading.{Leads}
use Rattle.fints_check_reach.specs.Numbers.{Has}
use Rattle.fints_check_reach.proofs.Lookups.{numbered_set_here, numbered_set_other}
use Rattle.fints_check_reach.specs.Passes.{IsOpenAt, IsSameAt, target_at, IsRaised, AreRaised, IsNoWay}

pub same_at : (old before : List (Option ℕ)) (n : ℕ) → IsSameAt old old before before n
same_at old before n = record { number = refl; source = refl }

pub record SoFar (step : StepValue) (old new before after : List (Option ℕ)) (b m source : ℕ) : Type 0 where
  pub long : length new ≡ length old
  pub wide : length after ≡ length before
  pub up : (n e : ℕ) → Has old n e → (f : ℕ) × Has new n f × (e ≤ f)
  pub led : (k to : ℕ) → k < b → IsOpenAt step k → target_at step k ≡ Step to
      → (f : ℕ) × Has new to f × (m ≤ f)
  pub each : (n : ℕ)
      → IsSameAt old new before after n ⊎ (Leads step (Step n) × Has new n m × Has after n source)

pub so_far_none : (step : StepValue) (old before : List (Option ℕ)) (m source : ℕ)
    → SoFar step old old before before 0 m source
so_far_none step old before m source =
    record {
      long = refl;
      wide = refl;
      up = λ n e h. (e, h, omega arith);
      led = λ k to less. absurd (omega arith);
      each = λ n. inl (same_at old before n);
    }

-- a branch that isn't open, or answered to no later step, adds nothing
pub so_far_past : (step : StepValue) (old new before after : List (Option ℕ)) (b m source : ℕ)
    → IsNoWay step b → SoFar step old new before after b m source
    → SoFar step old new before after (b + 1) m source
so_far_past step old new before after b m source none s = record {
  long = s.long;
  wide = s.wide;
  up = s.up;
  each = s.each;
  led = λ k to less way is. elim (cases_order k b) [
    | inl same ↦ absurd (none to (record { way = subst (IsOpenAt step) same way; leads_to = ap (target_at step) (sym same) ∙ is }))
    | inr other ↦ elim other [ inl below ↦ s.led k to below way is | inr above ↦ absurd (omega arith) ]
  ];
}

-- an open branch's target is raised
pub so_far_raised : (step : StepValue) (old mid new before between after : List (Option ℕ))
    (b m source to : ℕ) → Leads step (Step to) → target_at step b ≡ Step to
    → IsRaised mid new between after to m source → SoFar step old mid before between b m source
    → SoFar step old new before after (b + 1) m source
so_far_raised step old mid new before between after b m source to can is raised s = record {
  long = raised.long ∙ s.long;
  wide = raised.wide ∙ s.wide;
  up = λ n e h. let one = s.up n e h in let two = raised.up n one.0 one.1 in let le = one.2 in let le' = two.2 in (two.0, two.1, omega arith);
  led = λ k other less way at. elim (cases_order k b) [
    | inl same ↦
        let e : to ≡ other = same_step (sym is ∙ (ap (target_at step) (sym same) ∙ at)) in
        (raised.led.0, subst (λ t. Has new t raised.led.0) e raised.led.1, raised.led.2)
    | inr apart ↦ elim apart [
      | inl below ↦
          let one = s.led k other below way at in let two = raised.up other one.0 one.1 in let le = one.2 in
          let le' = two.2 in (two.0, two.1, omega arith)
      | inr above ↦ absurd (omega arith)
    ]
  ];
  each = λ n. elim (raised.each n) [
    | inl now ↦ elim (s.each n) [
      | inl earlier ↦ inl (record { number = now.number ∙ earlier.number; source = now.source ∙ earlier.source })
      | inr led ↦ inr (led.0, now.number ∙ led.1, now.source ∙ led.2)
    ]
    | inr here ↦ inr (subst (λ t. Leads step (Step t)) (sym here.0) can, here.1, here.2)
  ];
}
  where
    same_step : {a b : ℕ} → ◌≡◌ {A = Target} (Step a) (Step b) → a ≡ b
    same_step h = cc

pub so_far_all : (step : StepValue) (old new before after : List (Option ℕ)) (m source : ℕ)
    → ((to : Target) → Leads step to
    → (b : ℕ) × (b ≤ length step.branches) × IsOpenAt step b × (target_at step b ≡ to))
    → SoFar step old new before after (length step.branches + 1) m source
    → AreRaised step old new before after m source
so_far_all step old new before after m source ways s = record {
  long = s.long;
  wide = s.wide;
  up = s.up;
  each = s.each;
  led = λ to can. let way = ways (Step to) can in s.led way.0 to (let h = way.1 in omega arith) way.2 way.3;
}

module _ (old before : List (Option ℕ)) (to m source : ℕ) (low : 1 ≤ to) (high : to ≤ length old) (wide : length before ≡ length old) where
  -- a number as great was there
  pub kept_as_great : (e : ℕ) → Has old to e → m ≤ e → IsRaised old old before before to m source
  kept_as_great e has least =
      record {
        long = refl;
        wide = refl;
        up = λ n f h. (f, h, omega arith);
        led = (e, has, least);
        each = λ n. inl (same_at old before n);
      }

  -- none, or a lower one, was there
  pub put_greater : ((e : ℕ) → Has old to e → e < m)
      → IsRaised old (set old (to - 1) (Some m)) before (set before (to - 1) (Some source)) to m source
  put_greater less =
      let new = set old (to - 1) (Some m) in
      let after = set before (to - 1) (Some source) in
      let here : Has new to m = numbered_set_here old to (Some m) low high in
      record {
        long = length-set old (to - 1) (Some m);
        wide = length-set before (to - 1) (Some source);
        up = λ n e h. elim (cases_eq n to) [
          | inl same ↦ let l = less e (subst (λ k. Has old k e) same h) in (m, subst (λ k. Has new k m) (sym same) here, omega arith)
          | inr other ↦ (e, numbered_set_other old to n (Some m) low other ∙ h, omega arith)
        ];
        led = (m, here, omega arith);
        each = λ n. elim (cases_eq n to) [
          | inl same ↦
              inr (
                same,
                subst (λ k. Has new k m) (sym same) here,
                subst (λ k. Has after k source) (sym same)
                    (numbered_set_here before to (Some source) low (omega (arith, wide))),
              )
          | inr other ↦
              inl
              (record {
                number = numbered_set_other old to n (Some m) low other;
                source = numbered_set_other before to n (Some source) low other;
              })
        ];
      }
