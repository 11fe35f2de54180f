-- A search goes on: one place more, one rule more, one step more.
use Rattle.std.proofs.Common.{ℕ, zero, suc, ◌+◌, ◌<◌, ◌≤◌, ◌≡◌, ◌⊎◌, List, [], ◌∷◌, ◌++◌, length, get_or, refl, ap, sym, subst, ◌∙◌, arith, inl, inr}
use Rattle.std.specs.Prelude.{AllPairs, Contains}
use Rattle.std.proofs.lemmas.Bool.{cases_lt, cases_order}
use Rattle.std.proofs.lemmas.List.{get_or_append_left, get_or_at, length-append}
use Rattle.std.proofs.lemmas.List.Elements.{Contains-append_cases, Contains-append_left, Contains-append_right}
use Rattle.fints_rules.specs.Rules.{rule_number}
use Rattle.fints_rules_permissions.specs.Permits.{Granted}
use Rattle.fints_rules.specs.declared.rule.Rule.{Rule}
use Rattle.fints_rules.specs.declared.rule.TheConstants.Rule.{ALL}
use Rattle.fints_rules.proofs.RuleTable.{number_within, rule_once}
use Rattle.fints_script.specs.Scripts.{ScriptValue}
use Rattle.fints_check_findings.specs.Findings.{AreFindings, IsBefore, IsReal}
use Rattle.fints_check_findings.specs.Searching.{AreFoundTo, IsEarlier}
use Rattle.fints_check_findings.specs.declared.finding.Finding.{Finding}

-- ---- order

before_new : (n place : ℕ) (r : Rule) (f : Finding) → IsEarlier n (rule_number r) place f
    → IsBefore f (record { step = n; rule = r; segment = place })
before_new n place r f (inl less) = inl less
before_new n place r f (inr (same, inl less)) = inr (same, inl less)
before_new n place r f (inr (same, inr (rule, less))) = inr (same, inr (rule_once f.rule r rule, less))

-- one more at the end, after all the others
pair_push : (fs : List Finding) (g : Finding) → AllPairs IsBefore fs
    → ((f : Finding) → Contains fs f → IsBefore f g) → AllPairs IsBefore (fs ++ g ∷ [])
pair_push fs g pairs each i j d less lt =
    let long : length (fs ++ g ∷ []) ≡ length fs + 1 = length-append fs (g ∷ []) in
    elim (cases_lt j (length fs)) [
      | inl inside ↦
          along (get_or_append_left fs (g ∷ []) d i (omega (arith, less, inside)))
          (get_or_append_left fs (g ∷ []) d j inside) (pairs i j d less inside)
      | inr last ↦
          let at : j ≡ length fs = omega (arith, last, lt, long) in
          let here : i < length fs = omega (arith, less, at) in
          along (get_or_append_left fs (g ∷ []) d i here) (get_or_at fs g [] d j (sym at)) (each (get_or fs i d) (has fs i d here))
    ]
  where
    along : {x x' y y' : Finding} → x' ≡ x → y' ≡ y → IsBefore x y → IsBefore x' y'
    along {x} {x'} {y} {y'} e f h = subst (λ u. IsBefore u y') (sym e) (subst (IsBefore x) (sym f) h)

    has : (zs : List Finding) (k : ℕ) (e : Finding) → k < length zs → Contains zs (get_or zs k e)
    has [] k e h = absurd (omega (arith, h))
    has (z ∷ zs) zero e h = (zero, omega arith, refl)
    has (z ∷ zs) (suc k) e h = let r = has zs k e (omega (arith, h)) in (suc r.0, omega (arith, r.1), r.2)

-- ---- one place more

module _ (granted : Granted) (script : ScriptValue) (n place : ℕ) (r : Rule) where
  earlier_cases : (f : Finding) → IsEarlier n (rule_number r) (place + 1) f
      → IsEarlier n (rule_number r) place f ⊎ (f ≡ record { step = n; rule = r; segment = place })
  earlier_cases f (inl less) = inl (inl less)
  earlier_cases f (inr (same, inl less)) = inl (inr (same, inl less))
  earlier_cases f (inr (same, inr (rule, less))) =
      elim (cases_order f.segment place) [
        | inl at ↦
            let make : ℕ → Rule → ℕ → Finding = λ s r p. record { step = s; rule = r; segment = p } in
            inr
            (ap (λ (s : ℕ). make s f.rule f.segment) same
            ∙ (ap (λ (q : Rule). make n q f.segment) (rule_once f.rule r rule)
            ∙ ap (λ (p : ℕ). make n r p) at))
        | inr other ↦ elim other [ inl below ↦ inl (inr (same, inr (rule, below))) | inr above ↦ absurd (omega (arith, less, above)) ]
      ]

  earlier_more : (f : Finding) → IsEarlier n (rule_number r) place f
      → IsEarlier n (rule_number r) (place + 1) f
  earlier_more f (inl less) = inl less
  earlier_more f (inr (same, inl less)) = inr (same, inl less)
  earlier_more f (inr (same, inr (rule, less))) = inr (same, inr (rule, omega (arith, less)))

  pub found_skip : (findings : List Finding)
      → (IsReal granted script (record { step = n; rule = r; segment = place }) → ⊥)
      → AreFoundTo granted script n (rule_number r) place findings
      → AreFoundTo granted script n (rule_number r) (place + 1) findings
  found_skip findings none a = record {
    exactly = λ f. (
      λ has. let s = (a.exactly f).0 has in (earlier_more f s.0, s.1),
      λ s. elim (earlier_cases f s.0) [
        | inl before ↦ (a.exactly f).1 (before, s.1)
        | inr is ↦ absurd (none (subst (IsReal granted script) is s.1))
      ],
    );
    in_order = a.in_order;
  }

  pub found_push : (findings : List Finding)
      → IsReal granted script (record { step = n; rule = r; segment = place })
      → AreFoundTo granted script n (rule_number r) place findings
      → AreFoundTo granted script n (rule_number r) (place + 1)
      (findings ++ record { step = n; rule = r; segment = place } ∷ [])
  found_push findings real a =
      let g : Finding = record { step = n; rule = r; segment = place } in
      record {
        exactly = λ f. (
          λ has. elim (Contains-append_cases findings (g ∷ []) f has) [
            | inl old ↦ let s = (a.exactly f).0 old in (earlier_more f s.0, s.1)
            | inr new ↦
                let is = only g f new in
                (subst (IsEarlier n (rule_number r) (place + 1)) is (inr (refl, inr (refl, omega arith))), subst (IsReal granted script) is real)
          ],
          λ s. elim (earlier_cases f s.0) [
            | inl before ↦ Contains-append_left findings (g ∷ []) f ((a.exactly f).1 (before, s.1))
            | inr is ↦ Contains-append_right findings (g ∷ []) f (subst (Contains (g ∷ [])) (sym is) (zero, omega arith, refl))
          ],
        );
        in_order = pair_push findings g a.in_order (λ f has. before_new n place r f ((a.exactly f).0 has).0);
      }
    where
      only : (g f : Finding) → Contains (g ∷ []) f → g ≡ f
      only g f (zero, lt, at) = at
      only g f (suc k, lt, at) = absurd (omega (arith, lt))

-- ---- one rule more, one step more

module _ (granted : Granted) (script : ScriptValue) where
  moved : (n r p m q k : ℕ) (findings : List Finding)
      → ((f : Finding) → IsReal granted script f → IsEarlier n r p f → IsEarlier m q k f)
      → ((f : Finding) → IsReal granted script f → IsEarlier m q k f → IsEarlier n r p f)
      → AreFoundTo granted script n r p findings → AreFoundTo granted script m q k findings
  moved n r p m q k findings to from a = record {
    exactly = λ f. (λ has. let s = (a.exactly f).0 has in (to f s.1 s.0, s.1), λ s. (a.exactly f).1 (from f s.1 s.0, s.1));
    in_order = a.in_order;
  }

  -- each real finding of the rule is within the places
  pub found_rule : (n r places : ℕ) (findings : List Finding)
      → ((f : Finding) → f.step ≡ n → IsReal granted script f → f.segment < places)
      → AreFoundTo granted script n r places findings → AreFoundTo granted script n (r + 1) 0 findings
  found_rule n r places findings few a = moved n r places n (r + 1) 0 findings to from a
    where
      to : (f : Finding) → IsReal granted script f → IsEarlier n r places f → IsEarlier n (r + 1) 0 f
      to f real (inl less) = inl less
      to f real (inr (same, inl less)) = inr (same, inl (omega (arith, less)))
      to f real (inr (same, inr (rule, less))) = inr (same, inl (omega (arith, rule)))

      from : (f : Finding) → IsReal granted script f → IsEarlier n (r + 1) 0 f → IsEarlier n r places f
      from f real (inl less) = inl less
      from f real (inr (same, inr (rule, less))) = absurd (omega (arith, less))
      from f real (inr (same, inl less)) =
          elim (cases_order (rule_number f.rule) r) [
            | inl at ↦ inr (same, inr (at, few f same real))
            | inr other ↦ elim other [ inl below ↦ inr (same, inl below) | inr above ↦ absurd (omega (arith, less, above)) ]
          ]

  -- all rules of the step were looked at
  pub found_step : (n : ℕ) (findings : List Finding) → AreFoundTo granted script n (length ALL + 1) 0 findings
      → AreFoundTo granted script (n + 1) 1 0 findings
  found_step n findings a = moved n (length ALL + 1) 0 (n + 1) 1 0 findings to from a
    where
      to : (f : Finding) → IsReal granted script f → IsEarlier n (length ALL + 1) 0 f
          → IsEarlier (n + 1) 1 0 f
      to f real (inl less) = inl (omega (arith, less))
      to f real (inr (same, rest)) = inl (omega (arith, same))

      from : (f : Finding) → IsReal granted script f → IsEarlier (n + 1) 1 0 f
          → IsEarlier n (length ALL + 1) 0 f
      from f real (inl less) =
          elim (cases_order f.step n) [
            | inl at ↦ inr (at, inl (let high = (number_within f.rule).1 in omega (arith, high)))
            | inr other ↦ elim other [ inl below ↦ inl below | inr above ↦ absurd (omega (arith, less, above)) ]
          ]
      from f real (inr (same, inl less)) = absurd (let low = (number_within f.rule).0 in omega (arith, low, less))
      from f real (inr (same, inr (rule, less))) = absurd (omega (arith, less))

  -- nothing of the step is real
  pub found_none : (n : ℕ) (findings : List Finding)
      → ((f : Finding) → f.step ≡ n → IsReal granted script f → ⊥) → AreFoundTo granted script n 1 0 findings
      → AreFoundTo granted script (n + 1) 1 0 findings
  found_none n findings none a = moved n 1 0 (n + 1) 1 0 findings to from a
    where
      to : (f : Finding) → IsReal granted script f → IsEarlier n 1 0 f → IsEarlier (n + 1) 1 0 f
      to f real (inl less) = inl (omega (arith, less))
      to f real (inr (same, rest)) = inl (omega (arith, same))

      from : (f : Finding) → IsReal granted script f → IsEarlier (n + 1) 1 0 f → IsEarlier n 1 0 f
      from f real (inl less) =
          elim (cases_order f.step n) [
            | inl at ↦ absurd (none f at real)
            | inr other ↦ elim other [ inl below ↦ inl below | inr above ↦ absurd (omega (arith, less, above)) ]
          ]
      from f real (inr (same, inl less)) = absurd (let low = (number_within f.rule).0 in omega (arith, low, less))
      from f real (inr (same, inr (rule, less))) = absurd (omega (arith, less))

  -- before the first step
  pub found_first : ((f : Finding) → IsReal granted script f → 1 ≤ f.step)
      → AreFoundTo granted script 1 1 0 []
  found_first some = record {
    exactly = λ f. (λ has. absurd (let lt = has.1 in omega (arith, lt)), λ s. absurd (early f s.1 s.0));
    in_order = λ i j d less lt. absurd (omega (arith, lt));
  }
    where
      early : (f : Finding) → IsReal granted script f → IsEarlier 1 1 0 f → ⊥
      early f real (inl less) = let low = some f real in omega (arith, low, less)
      early f real (inr (same, inl less)) = let low = (number_within f.rule).0 in omega (arith, low, less)
      early f real (inr (same, inr (rule, less))) = omega (arith, less)

  -- after the last step
  pub found_all : (count : ℕ) (findings : List Finding)
      → ((f : Finding) → IsReal granted script f → f.step ≤ count)
      → AreFoundTo granted script (count + 1) 1 0 findings → AreFindings granted script findings
  found_all count findings most a = record {
    exactly = λ f. (λ has. ((a.exactly f).0 has).1, λ real. (a.exactly f).1 (inl (let high = most f real in omega (arith, high)), real));
    in_order = a.in_order;
  }
