-- What the pass over the steps has found after some of them.
use Rattle.std.proofs.Common.{ℕ, suc, zero, ◌+◌, ◌*◌, ◌-◌, ◌<◌, ◌≤◌, ◌≡◌, ◌⊎◌, Option, Some, None, List, [], ◌∷◌, ◌++◌, length, replicate, refl, ap, sym, subst, ◌∙◌, arith, inl, inr}
use Rattle.std.proofs.lemmas.Option.{same_Some}
use Rattle.fints_script.specs.Numbered.{numbered, numbered_within}
use Rattle.fints_script.specs.Steps.{StepValue}
use Rattle.fints_script_cases.specs.declared.answers.Target.TheVariants.{Step, Again}
use Rattle.fints_wire.specs.Runs.{Arrives, Enters, IsWithin, Reach}
use Rattle.fints_script.specs.Scripts.{ScriptValue}
use Rattle.fints_script.specs.Sound.{IsSound}
use Rattle.fints_wire.specs.Runs.Reach.{first, onward}
use Rattle.fints_wire.specs.declared.dialogue.Visit.{Visit}
use Rattle.std.specs.Prelude.{◌↔◌}
use Rattle.std.proofs.lemmas.Bool.{cases_lt}
use Rattle.std.proofs.lemmas.List.{length_push, length-replicate}
use Rattle.fints_check_reach.specs.Leading.{Leads}
use Rattle.fints_check_reach.specs.Numbers.{Has, AreGreatest}
use Rattle.fints_check_reach.specs.Closed.{IsEnough, AreClosed}
use Rattle.fints_check_reach.specs.Passes.{IsPassed, IsSameAt, IsSpare, AreRaised}
use Rattle.fints_check_reach.specs.Sources.{EndsRow}
use Rattle.fints_check_reach.proofs.Bounds.{closed_bounded}
use Rattle.fints_check_reach.proofs.Blanks.{none_in_blank, none_in_nil}
use Rattle.fints_check_reach.proofs.Lookups.{numbered_push_here, numbered_push_old, numbered_push_cases}
use Rattle.fints_check_reach.proofs.Raising.{same_at}
use Rattle.fints_script_rows.specs.declared.limits.TheConstants.{MAX_STEPS}
use Rattle.fints_check_reach.proofs.Scripts.{IsScript, lead_forward}

-- an answer that leads to a later step has it sent
pub reach_step : (steps : List StepValue) (v : Visit) (step : StepValue) (to : ℕ)
    → numbered steps v.step ≡ Some step → Leads step (Step to) → Reach steps v
    → Reach steps (record { step = to; number = v.number + 1; times = 1 })
reach_step steps v step to at can r =
    onward can.codes can.answer r
    (record {
      step = step;
      at = at;
      enters =
          subst (λ t. Enters step.repeat v t (record { step = to; number = v.number + 1; times = 1 }))
          (sym can.leads_to) refl;
    })

reach_again : (steps : List StepValue) (v : Visit) (step : StepValue) → numbered steps v.step ≡ Some step
    → Leads step Again → v.times < step.repeat → Reach steps v
    → Reach steps (record { step = v.step; number = v.number + 1; times = v.times + 1 })
reach_again steps v step at can less r =
    onward can.codes can.answer r
    (record {
      step = step;
      at = at;
      enters =
          subst
          (λ t.
          Enters step.repeat v t
          (record { step = v.step; number = v.number + 1; times = v.times + 1 }))
          (sym can.leads_to) (less, refl);
    })

-- a step that may be repeated is sent k times more
pub reach_repeated : (steps : List StepValue) (n e : ℕ) (step : StepValue) (k : ℕ)
    → numbered steps n ≡ Some step → Leads step Again → k < step.repeat
    → Reach steps (record { step = n; number = e; times = 1 })
    → Reach steps (record { step = n; number = e + k; times = 1 + k })
reach_repeated steps n e step zero at can less r = subst (λ (p : ℕ). Reach steps (record { step = n; number = p; times = 1 })) (omega arith) r
reach_repeated steps n e step (suc k) at can less r =
    let before = reach_repeated steps n e step k at can (omega arith) r in
    let after = reach_again steps (record { step = n; number = e + k; times = 1 + k }) step at can (omega arith) before in
    let number : (e + k) + 1 ≡ e + suc k = omega arith in
    let times : (1 + k) + 1 ≡ 1 + suc k = omega arith in
    subst (λ (p : ℕ). Reach steps (record { step = n; number = p; times = 1 + suc k })) number
    (subst (λ (q : ℕ). Reach steps (record { step = n; number = (e + k) + 1; times = q })) times after)

-- step n is still to be entered with m or more, or its number covers m
pub record Due (steps : List StepValue) (entries figures : List (Option ℕ)) (i n m : ℕ) : Type 0 where
  pub passed : n ≤ i
      → (g : ℕ) × Has figures n g × ((step : StepValue) → numbered steps n ≡ Some step → IsEnough step m g)
  pub ahead : i < n → (e : ℕ) × Has entries n e × (m ≤ e)

-- the number with which step n is entered comes from step s, which has one less and was passed over
pub record IsFrom (steps : List StepValue) (entries figures : List (Option ℕ)) (n s : ℕ) : Type 0 where
  pub step : StepValue
  pub at : numbered steps s ≡ Some step
  pub number : ℕ
  pub has : Has figures s number
  pub leads_here : Leads step (Step n)
  pub entered : Has entries n (number + 1)

pub record Pass (steps : List StepValue) (entries sources figures : List (Option ℕ)) (i : ℕ) : Type 0 where
  pub long : length entries ≡ length steps
  pub wide : length sources ≡ length steps
  pub kept : length figures ≡ i
  pub entered : (n e : ℕ) → Has entries n e → Reach steps (record { step = n; number = e; times = 1 })
  pub sent : (n f : ℕ) → Has figures n f → (t : ℕ) × Reach steps (record { step = n; number = f; times = t })
  pub begun : Due steps entries figures i 1 1
  pub onward_from : (n to f : ℕ) (step : StepValue) → numbered steps n ≡ Some step → Has figures n f
      → Leads step (Step to) → Due steps entries figures i to (f + 1)
  pub rows : (n f : ℕ) (step : StepValue) → numbered steps n ≡ Some step → Has figures n f
      → (e : ℕ) × Has entries n e × EndsRow step e f
  pub began : (n e : ℕ) → Has entries n e → ((n ≡ 1) × (e ≡ 1)) ⊎ ((s : ℕ) × Has sources n s)
  pub froms : (n s : ℕ) → Has sources n s → IsFrom steps entries figures n s

covers_less : (step : StepValue) (m e f : ℕ) → m ≤ e → IsEnough step e f → IsEnough step m f
covers_less step m e f less c = record { once = let h = c.once in omega arith; often = λ again. let h = c.often again in omega arith }

module _ (steps : List StepValue) (entries new sources after figures : List (Option ℕ)) (cell : Option ℕ)
    (i n : ℕ) (step : StepValue) (next : n ≡ i + 1) (at : numbered steps n ≡ Some step)
    (p : IsPassed step n cell entries new sources after) (kept : length figures ≡ i) where
  due_more : (k m : ℕ) → Due steps entries figures i k m → Due steps new (figures ++ cell ∷ []) n k m
  due_more k m d = record {
    passed = λ within. elim (cases_lt i k) [
      | inr old ↦ let g = d.passed old in (g.0, numbered_push_old figures cell k (Some g.0) g.1, g.2)
      | inl last ↦
          let same : k ≡ n = omega arith in
          let e = d.ahead last in
          let f = p.covers e.0 (subst (λ j. Has entries j e.0) same e.1) in
          let here : n ≡ length figures + 1 = omega (arith, kept, next) in (
            f.0,
            subst (λ j. Has (figures ++ cell ∷ []) j f.0) (sym same) (numbered_push_here figures cell n here ∙ ap (λ c. Some c) f.1),
            λ s h. let is : step ≡ s = same_Some step s (sym at ∙ subst (λ j. numbered steps j ≡ Some s) same h) in
                subst (λ (s : StepValue). IsEnough s m f.0) is (covers_less step m e.0 f.0 e.2 f.2),
          )
    ];
    ahead = λ above. let e = d.ahead (omega (arith, next)) in let f = p.up k e.0 e.1 in let low = e.2 in let high = f.2 in (f.0, f.1, omega arith);
  }

  sent_more : ((k e : ℕ) → Has entries k e → Reach steps (record { step = k; number = e; times = 1 }))
      → 0 < step.repeat → (f : ℕ) → cell ≡ Some f
      → (t : ℕ) × Reach steps (record { step = n; number = f; times = t })
  sent_more entered once f is =
      let from = p.sent f is in
      let r = entered n from.0 from.1 in
      elim from.2 [
        | inl same ↦ (1, subst (λ (q : ℕ). Reach steps (record { step = n; number = q; times = 1 })) (sym same) r)
        | inr again ↦ (
          1 + (step.repeat - 1),
          subst
              (λ (q : ℕ). Reach steps (record { step = n; number = q; times = 1 + (step.repeat - 1) }))
              (sym again.1)
              (reach_repeated steps n from.0 step (step.repeat - 1) at again.0 (omega arith) r),
        )
      ]

  -- nothing leads to the steps up to this one
  stays : IsScript steps → (k : ℕ) → k ≤ n → IsSameAt entries new sources after k
  stays script k low = elim (p.each k) [
    | inl same ↦ same
    | inr way ↦ let forward = lead_forward steps n step (Step k) script at way.2 in let above = forward.0 in absurd (omega arith)
  ]

  rows_more : IsScript steps → Pass steps entries sources figures i → (k f : ℕ) (st : StepValue)
      → numbered steps k ≡ Some st → Has (figures ++ cell ∷ []) k f → (e : ℕ) × Has new k e × EndsRow st e f
  rows_more script s k f st h has = elim (numbered_push_cases figures cell k (Some f) has) [
    | inl old ↦
        let row = s.rows k f st h old in
        let low = (numbered_within figures k (Some f) old).1 in
        (row.0, (stays script k (omega (arith, kept, next))).number ∙ row.1, row.2)
    | inr here ↦
        let same : k ≡ n = omega (arith, here.0, kept, next) in
        let is : step ≡ st = same_Some step st (sym at ∙ subst (λ j. numbered steps j ≡ Some st) same h) in
        let row = p.row f here.1 in (
          row.0,
          (stays script k (omega (arith, same))).number
              ∙ subst (λ j. Has entries j row.0) (sym same) row.1,
          subst (λ (x : StepValue). EndsRow x row.0 f) is row.2,
        )
  ]

  began_more : Pass steps entries sources figures i → (k e : ℕ) → Has new k e
      → ((k ≡ 1) × (e ≡ 1)) ⊎ ((s : ℕ) × Has after k s)
  began_more s k e h = elim (p.each k) [
    | inl same ↦ elim (s.began k e (sym same.number ∙ h)) [ inl one ↦ inl one | inr source ↦ inr (source.0, same.source ∙ source.1) ]
    | inr way ↦ inr (n, way.4)
  ]

  froms_more : Pass steps entries sources figures i → (k t : ℕ) → Has after k t
      → IsFrom steps new (figures ++ cell ∷ []) k t
  froms_more s k t h = elim (p.each k) [
    | inl same ↦
        let from = s.froms k t (sym same.source ∙ h) in
        record {
          step = from.step;
          at = from.at;
          number = from.number;
          has = numbered_push_old figures cell t (Some from.number) from.has;
          leads_here = from.leads_here;
          entered = same.number ∙ from.entered;
        }
    | inr way ↦
        let is : n ≡ t = same_Some n t (same_Some (Some n) (Some t) (sym way.4 ∙ h)) in
        let here : n ≡ length figures + 1 = omega (arith, kept, next) in
        record {
          step = step;
          at = subst (λ j. numbered steps j ≡ Some step) is at;
          number = way.0;
          has = subst (λ j. Has (figures ++ cell ∷ []) j way.0) is (numbered_push_here figures cell n here ∙ ap (λ c. Some c) way.1);
          leads_here = way.2;
          entered = way.3;
        }
  ]

  pub pass_more : IsScript steps → Pass steps entries sources figures i
      → Pass steps new after (figures ++ cell ∷ []) n
  pass_more script s = let once = (script.each n step at).once in record {
    long = p.long ∙ s.long;
    wide = p.wide ∙ s.wide;
    kept = length_push figures cell ∙ (ap (λ j. j + 1) kept ∙ sym next);
    entered = λ k e h. elim (p.each k) [
      | inl same ↦ s.entered k e (sym same.number ∙ h)
      | inr way ↦
          let r = sent_more s.entered once way.0 way.1 in
          let is : way.0 + 1 ≡ e = same_Some (way.0 + 1) e (same_Some (Some (way.0 + 1)) (Some e) (sym way.3 ∙ h)) in
          subst (λ (q : ℕ). Reach steps (record { step = k; number = q; times = 1 })) is
          (reach_step steps (record { step = n; number = way.0; times = r.0 }) step k at way.2 r.1)
    ];
    sent = λ k f h. elim (numbered_push_cases figures cell k (Some f) h) [
      | inl old ↦ s.sent k f old
      | inr here ↦
          let same : n ≡ k = omega (arith, here.0, kept, next) in
          subst (λ j. (t : ℕ) × Reach steps (record { step = j; number = f; times = t })) same (sent_more s.entered once f here.1)
    ];
    begun = due_more 1 1 s.begun;
    onward_from = λ k to f st h has can. elim (numbered_push_cases figures cell k (Some f) has) [
      | inl old ↦ due_more to (f + 1) (s.onward_from k to f st h old can)
      | inr here ↦
          let same : k ≡ n = omega (arith, here.0, kept, next) in
          let is : st ≡ step = same_Some st step (sym h ∙ subst (λ j. numbered steps j ≡ Some step) (sym same) at) in
          let can' = subst (λ (x : StepValue). Leads x (Step to)) is can in
          let led = p.led f to here.1 can' in
          let forward = lead_forward steps n step (Step to) script at can' in
          record { passed = λ within. absurd (omega (arith, forward.0)); ahead = λ above. (led.0, led.1, led.2) }
    ];
    rows = rows_more script s;
    began = began_more s;
    froms = froms_more s;
  }

-- the numbers of a whole pass are closed
pub pass_closed : (steps : List StepValue) (entries sources figures : List (Option ℕ)) → IsScript steps
    → Pass steps entries sources figures (length steps) → AreClosed steps figures
pass_closed steps entries sources figures script s = record {
  long = s.kept;
  first = λ step at. let g = s.begun.passed (let h = script.some in omega arith) in (g.0, g.1, g.2 step at);
  onward =
      λ n to f step next at there has can.
      let g = (s.onward_from n to f step at has can).passed (numbered_within steps to next there).1 in
      (g.0, g.1, g.2 next there);
}

-- and the greatest
pub pass_greatest : (steps : List StepValue) (entries sources figures : List (Option ℕ))
    → ((v : Visit) → Arrives steps v ↔ Reach steps v) → IsScript steps
    → Pass steps entries sources figures (length steps) → AreGreatest steps figures
pass_greatest steps entries sources figures runs script s = record {
  long = s.kept;
  attained =
      λ n f h.
      let r = s.sent n f h in (
        record { step = n; number = f; times = r.0 },
        (runs (record { step = n; number = f; times = r.0 })).1 r.1,
        refl,
        refl,
      );
  most =
      λ v run.
      let b = closed_bounded steps figures v script (pass_closed steps entries sources figures script s)
      ((runs v).0 run) in (b.figure, b.has, b.within.now);
}

-- before the first step
pub pass_none : (steps : List StepValue) (count : ℕ) (entries sources : List (Option ℕ))
    → length steps ≡ count → length entries ≡ length steps → sources ≡ replicate count None → Has entries 1 1
    → ((n e : ℕ) → Has entries n e → (n ≡ 1) × (e ≡ 1)) → Pass steps entries sources [] 0
pass_none steps count entries sources all long blank here alone = record {
  long = long;
  wide = ap length blank ∙ (length-replicate count None ∙ sym all);
  kept = refl;
  entered =
      λ n e h.
      let one = alone n e h in subst (λ j. Reach steps (record { step = j; number = e; times = 1 }))
      (sym one.0)
      (subst (λ (q : ℕ). Reach steps (record { step = 1; number = q; times = 1 })) (sym one.1) first);
  sent = λ n f h. absurd (none_in_nil n f h);
  begun = record { passed = λ within. absurd (omega arith); ahead = λ above. (1, here, omega arith) };
  onward_from = λ n to f step at has. absurd (none_in_nil n f has);
  rows = λ n f step at has. absurd (none_in_nil n f has);
  began = λ n e h. inl (alone n e h);
  froms = λ n s h. absurd (none_in_blank count n s (subst (λ (xs : List (Option ℕ)). Has xs n s) blank h));
}

-- a step that isn't entered is passed over
pub passed_none : (step : StepValue) (n : ℕ) (old before : List (Option ℕ)) → numbered old n ≡ Some None
    → IsPassed step n None old old before before
passed_none step n old before is = record {
  long = refl;
  wide = refl;
  up = λ k e h. (e, h, omega arith);
  covers = λ e h. let no : ◌≡◌ {A = Option (Option ℕ)} (Some None) (Some (Some e)) = sym is ∙ h in absurd cc;
  led = λ f to h. absurd cc;
  sent = λ f h. absurd cc;
  row = λ f h. absurd cc;
  each = λ k. inl (same_at old before k);
}

-- the spare messages of a step end its row
spare_ends : (step : StepValue) (entry more : ℕ) → IsSpare step more → EndsRow step entry (entry + more)
spare_ends step entry more spare = record {
  repeated = λ again. ap (λ k. entry + k) (spare.often again);
  single = λ never. elim spare.source [ inl none ↦ omega (arith, none) | inr again ↦ absurd (never again.0) ];
}

-- one that is entered has the entry and its spare messages as its number, with its targets raised above it
pub passed_some : (step : StepValue) (n entry more : ℕ) (old new before after : List (Option ℕ))
    → Has old n entry → IsSpare step more → AreRaised step old new before after (entry + more + 1) n
    → IsPassed step n (Some (entry + more)) old new before after
passed_some step n entry more old new before after has spare raised = record {
  long = raised.long;
  wide = raised.wide;
  up = raised.up;
  covers = λ e h.
      let same : entry ≡ e = same_Some entry e (same_Some (Some entry) (Some e) (sym has ∙ h)) in
      (entry + more, refl, record { once = omega arith; often = λ again. let m = spare.often again in omega arith });
  led = λ f to h can. let same : entry + more ≡ f = same_Some (entry + more) f h in let r = raised.led to can in let high = r.2 in (r.0, r.1, omega arith);
  sent = λ f h.
      let same : entry + more ≡ f = same_Some (entry + more) f h in
      (entry, has, elim spare.source [ inl none ↦ inl (omega (arith, none, same)) | inr again ↦ let m = again.1 in inr (again.0, omega arith) ]);
  row = λ f h. (entry, has, subst (λ k. EndsRow step entry k) (same_Some (entry + more) f h) (spare_ends step entry more spare));
  each = λ k. elim (raised.each k) [ inl same ↦ inl same | inr now ↦ inr (entry + more, refl, now.0, now.1, now.2) ];
}

pub spare_small : (step : StepValue) (more : ℕ) → IsSpare step more → step.repeat < 100 → more < 100
spare_small step more spare often = elim spare.source [ inl none ↦ omega (arith, none) | inr again ↦ omega (arith, again.1) ]

-- an entered number is below 100 * MAX_STEPS
pub entered_small : (script : ScriptValue) (entries sources figures : List (Option ℕ)) (i n e : ℕ)
    → IsSound script → ((v : Visit) → Arrives script.steps v ↔ Reach script.steps v)
    → ((v : Visit) → Arrives script.steps v → IsWithin script.steps v)
    → Pass script.steps entries sources figures i → Has entries n e → e < 100 * MAX_STEPS
entered_small script entries sources figures i n e sound runs within s h =
    let v : Visit = record { step = n; number = e; times = 1 } in
    let w = within v ((runs v).1 (s.entered n e h)) in
    let few = sound.few_steps in let high = w.to in let last = w.last in omega arith
