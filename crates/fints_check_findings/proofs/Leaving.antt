-- Which orders are left unreleased, by branches and templates, and in runs.
use Rattle.std.proofs.Common.{ℕ, ◌+◌, ◌-◌, ◌≡◌, Bool, true, false, List, [], ◌∷◌, ◌++◌, length, Some, refl, ap, sym, subst, ◌∙◌, arith, inl, inr}
use Rattle.std.specs.Prelude.{codes, ◌↔◌, ◌||◌, IsTrue, Contains}
use Rattle.std.specs.List.{list_any, slice_get}
use Rattle.fints_script_cases.specs.Answers.{IsAnswer}
use Rattle.fints_script_cases.specs.declared.values.NamedValue.{NamedValue}
use Rattle.fints_rules_messages.specs.Messages.{MessageView, IsMessage}
use Rattle.fints_check_reach.specs.Following.{LeadsBehind, StepsFollow}
use Rattle.fints_rules.specs.Breaks.{Breaks, BytesBreak}
use Rattle.fints_rules.specs.Facts.{facts_alone}
use Rattle.fints_rules_permissions.specs.Permits.{Granted}
use Rattle.fints_rules.specs.Rules.{LeavesOrder}
use Rattle.fints_rules_permissions.specs.declared.orders.OrderRow.{OrderRow}
use Rattle.fints_rules.specs.declared.rule.Rule.{Rule}
use Rattle.fints_rules.specs.declared.rule.Rule.TheVariants.{Release}
use Rattle.fints_script.specs.Numbered.{numbered, numbered_from}
use Rattle.fints_script.specs.Plans.{Admits, IsClosedTemplate}
use Rattle.fints_script.specs.Scripts.{ScriptValue}
use Rattle.fints_script.specs.Sound.{IsSound}
use Rattle.fints_script.specs.Steps.{StepValue}
use Rattle.fints_script_templates.specs.declared.template.Template.{Template}
use Rattle.fints_wire.specs.Choices.{shortest_choice}
use Rattle.fints_wire.specs.Filling.{filling_of}
use Rattle.fints_wire.specs.Messages.{message_bytes}
use Rattle.fints_wire.specs.Runs.{Arrives, Before, ComesAfter, EndsAfter, Follows, IsSent, at_first, behind, came_after, onward}
use Rattle.fints_wire.specs.Views.{message_view}
use Rattle.fints_wire.specs.declared.dialogue.Sent.{Sent}
use Rattle.fints_wire.specs.declared.dialogue.Visit.{Visit}
use Rattle.fints_check_findings.specs.Elements.{has_process}
use Rattle.fints_check_findings.specs.Kinds.{is_end}
use Rattle.fints_check_findings.specs.Findings.{BreaksBehind, IsReal, Shows}
use Rattle.fints_check_findings.specs.Laws.{release_of}
use Rattle.fints_check_findings.specs.Releases.{IsHeld, IsUnreleased, releases, submits}
use Rattle.fints_check_findings.specs.declared.finding.Finding.{Finding}
use Rattle.fints_rules.specs.declared.release.TheConstants.{RELEASE}
use Rattle.fints_check_findings.proofs.Literals.{ends_are, processes_are}
use Rattle.fints_wire.proofs.RunLawLemmas.{last_two_messages, routes_send_behind, runs_by_steps, visits_are_within}
use Rattle.fints_wire.proofs.LawLemmas.{elements_are_filled_values, extremes_are_admitted_shortest, messages_are_read}
use Rattle.fints_rules_messages.proofs.LawLemmas.{one_message}
use Rattle.fints_check_reach.proofs.LawLemmas.{followed_where_carried}

-- ---- facts, by templates

or_false : (a b : Bool) → (a || b) ≡ false → (a ≡ false) × (b ≡ false)
or_false true b h = absurd cc
or_false false b h = (refl, h)

none_true : (a b : Bool) → (IsTrue a → ⊥) → (IsTrue b → ⊥) → (a || b) ≡ false
none_true true b x y = absurd (x refl)
none_true false true x y = absurd (y refl)
none_true false false x y = refl

not_true : (a : Bool) → a ≡ false → IsTrue a → ⊥
not_true true h t = cc
not_true false h t = cc

module _ (script : ScriptValue) (orders : List OrderRow) where
  abbrev pub Closed : StepValue → Type 0
  Closed step = (i : ℕ) (t : Template) → slice_get step.templates i ≡ Some t → IsClosedTemplate script.fields orders t

  submits_is : (step : StepValue) → Closed step → (number : ℕ) (values : List NamedValue)
      → (facts_alone (message_view script step number values)).submits ≡ submits step
  submits_is step closed number values =
      processes_are elements_are_filled_values (codes "4") (filling_of script.fields values number)
      script.fields orders (2 + length step.signers) step.templates closed

  sends_is : (step : StepValue) → Closed step → (number : ℕ) (values : List NamedValue)
      → (facts_alone (message_view script step number values)).sends ≡ list_any (has_process (codes "2"))
      step.templates
  sends_is step closed number values =
      processes_are elements_are_filled_values (codes "2") (filling_of script.fields values number)
      script.fields orders (2 + length step.signers) step.templates closed

  ends_is : (step : StepValue) (number : ℕ) (values : List NamedValue)
      → (facts_alone (message_view script step number values)).ends ≡ list_any is_end step.templates
  ends_is step number values = ends_are (filling_of script.fields values number) (2 + length step.signers) step.templates

  -- templates that leave an order do so in all messages..
  pub order_left : (from to : StepValue) → Closed from → Closed to → submits from ≡ true → releases to ≡ false
      → (number other : ℕ) (values more : List NamedValue)
      → LeavesOrder (facts_alone (message_view script from number values))
      (facts_alone (message_view script to other more))
  order_left from to closed shut s r number other values more =
      let none = or_false _ _ r in (
        submits_is from closed number values ∙ s,
        not_true _ (sends_is to shut other more ∙ none.0),
        not_true _ (ends_is to other more ∙ none.1),
      )

  -- ..and those that do so in some do
  pub left_by : (from to : StepValue) → Closed from → Closed to
      → (number other : ℕ) (values more : List NamedValue)
      → LeavesOrder (facts_alone (message_view script from number values))
      (facts_alone (message_view script to other more))
      → (submits from ≡ true) × (releases to ≡ false)
  left_by from to closed shut number other values more l = (
    sym (submits_is from closed number values) ∙ l.0,
    none_true _ _ (λ t. l.1 (sends_is to shut other more ∙ t)) (λ t. l.2 (ends_is to other more ∙ t)),
  )

  -- what is held by templates is left unreleased in some messages, and the other way round
  pub held_both : ((n : ℕ) (step : StepValue) → numbered script.steps n ≡ Some step → Closed step) → (t s : ℕ)
      → IsHeld script.steps t s ↔ IsUnreleased script t s
  held_both closed t s = (
    λ h. record {
      from = h.step;
      at = h.at;
      to = h.is.to;
      there = h.is.there;
      follows = (h.branch, h.is.carried);
      leaves = record {
        values = shortest_choice script.fields;
        admitted = extremes_are_admitted_shortest script.fields;
        number = 1;
        other = 1;
        leaves =
            order_left h.step h.is.to (closed t h.step h.at) (closed s h.is.to h.is.there) h.submitted
            h.is.unreleased 1 1 (shortest_choice script.fields) (shortest_choice script.fields);
      };
    },
    λ u.
        let l = u.leaves in
        let by = left_by u.from u.to (closed t u.from u.at) (closed s u.to u.there) l.number l.other l.values l.values l.leaves in
        record {
          step = u.from;
          at = u.at;
          submitted = by.0;
          branch = u.follows.0;
          is = record { carried = u.follows.1; to = u.to; there = u.there; unreleased = by.1 };
        },
  )

-- ---- visits and their messages

abbrev pub sent_as : ScriptValue → StepValue → Visit → List NamedValue → Sent
sent_as script step v values = record { step = v.step; number = v.number; bytes = message_bytes script step v.number values }

module _ (granted : Granted) (script : ScriptValue) (sound : IsSound script) where
  arrives_on : (v w : Visit) (codes : List ℕ) → Arrives script.steps v → IsAnswer codes
      → Follows script.steps v codes w → Arrives script.steps w
  arrives_on v w codes a answer f = (runs_by_steps script.steps w).1 (onward codes answer ((runs_by_steps script.steps v).0 a) f)

  -- the message of a visit is read as its step's
  read_as : (v : Visit) (step : StepValue) (values : List NamedValue) → Arrives script.steps v
      → numbered script.steps v.step ≡ Some step → Admits script.fields values
      → IsMessage (message_bytes script step v.number values) (message_view script step v.number values)
  read_as v step values a at admits =
      let w = visits_are_within script v sound a in
      let few = sound.few_steps in
      let to = w.to in
      let last = w.last in
      messages_are_read script (v.step - 1) step v.number values sound (numbered_from script.steps v.step step at) w.first (omega arith) admits

  -- after the message of a visit, and an answer with 0030, that of another is shown to leave an order unreleased
  shows_behind : (values : List NamedValue) (answers : List (List ℕ)) (v w : Visit) (codes : List ℕ)
      (step next : StepValue) → numbered script.steps v.step ≡ Some step
      → numbered script.steps w.step ≡ Some next → Admits script.fields values → Arrives script.steps v
      → Arrives script.steps w
      → Contains codes RELEASE
      → LeavesOrder (facts_alone (message_view script step v.number values))
      (facts_alone (message_view script next w.number values))
      → EndsAfter script values answers (behind (sent_as script step v values) codes)
      (sent_as script next w values)
      → Shows granted script (release_of w.step) values answers
  shows_behind values answers v w codes step next at there admits a b has leaves ends = record {
    admitted = admits;
    message = sent_as script next w values;
    ends = ends.ends;
    of = refl;
    breaks = subst (λ (before : Before). BreaksBehind granted before (sent_as script next w values) Release 0) (sym ends.after) (inr (
      refl,
      refl,
      record {
        earlier = message_view script step v.number values;
        was = read_as v step values a at admits;
        message = message_view script next w.number values;
        is = read_as w next values b there admits;
        breaks = (has, leaves);
      },
    ));
  }

  module _ (closed : (n : ℕ) (step : StepValue) → numbered script.steps n ≡ Some step → Closed script granted.orders step) where
    -- any numbers and values do what some do
    leaves_at : (t s : ℕ) (u : IsUnreleased script t s) (number other : ℕ) (values : List NamedValue)
        → LeavesOrder (facts_alone (message_view script u.from number values))
        (facts_alone (message_view script u.to other values))
    leaves_at t s u number other values =
        let l = u.leaves in
        let shut = closed t u.from u.at in
        let tight = closed s u.to u.there in
        let by = left_by script granted.orders u.from u.to shut tight l.number l.other l.values l.values l.leaves in
        order_left script granted.orders u.from u.to shut tight by.0 by.1 number other values values

    -- visits that follow one another so are shown
    follow_shows : (t s : ℕ) (values : List NamedValue) (answers : List (List ℕ)) (from to : Visit)
        (codes : List ℕ) (u : IsUnreleased script t s) → Admits script.fields values
        → Arrives script.steps from → StepsFollow script.steps t RELEASE s from codes to
        → EndsAfter script values answers (behind (sent_as script u.from from values) codes)
        (sent_as script u.to to values)
        → Shows granted script (release_of s) values answers
    follow_shows t s values answers from to codes u admits a are ends =
        subst (λ (k : ℕ). Shows granted script (release_of k) values answers) are.next
        (shows_behind values answers from to codes u.from u.to (ap (numbered script.steps) are.of ∙ u.at)
        (ap (numbered script.steps) are.next ∙ u.there) admits a
        (arrives_on from to codes a are.answer are.follows) are.has
        (leaves_at t s u from.number to.number values) ends)

    pub unreleased_real : (v : Visit) (s : ℕ) → Arrives script.steps v → IsUnreleased script v.step s
        → IsReal granted script (release_of s)
    unreleased_real v s a u =
        let f = (followed_where_carried script v.step RELEASE s u.from sound u.at).1 ((v, a, refl), u.follows) in
        let values = u.leaves.values in
        let b = sent_as script u.from f.from values in
        let m = sent_as script u.to f.to values in
        let at : numbered script.steps f.from.step ≡ Some u.from = ap (numbered script.steps) f.are.of ∙ u.at in
        let there : numbered script.steps f.to.step ≡ Some u.to = ap (numbered script.steps) f.are.next ∙ u.there in
        let sends =
        (last_two_messages script values (behind b f.codes) m sound).1 (
          f.to,
          record { at = u.to; of = there; is = refl },
          record {
            visit = f.from;
            arrives = f.arrives;
            is = record { at = u.from; of = at; is = refl };
            answer = f.are.answer;
            follows = f.are.follows;
          },
        ) in
        record {
          values = values;
          answers = sends.0;
          shown =
              follow_shows v.step s values sends.0 f.from f.to f.codes u u.leaves.admitted f.arrives f.are
              sends.1;
        }

    pub unreleased_shown : (t s : ℕ) (values : List NamedValue) (answers : List (List ℕ))
        → Admits script.fields values → IsUnreleased script t s
        → LeadsBehind script.steps t RELEASE s answers
        → Shows granted script (release_of s) values answers
    unreleased_shown t s values answers admits u way =
        let are = way.are in
        let a : Arrives script.steps way.from =
        record {
          answers = way.way;
          each = way.route.each;
          later = way.route.later;
          after = way.route.after;
          last = way.route.last;
        } in
        let at : numbered script.steps way.from.step ≡ Some u.from = ap (numbered script.steps) are.of ∙ u.at in
        let there : numbered script.steps way.to.step ≡ Some u.to = ap (numbered script.steps) are.next ∙ u.there in
        let ends =
        routes_send_behind script values way.way way.codes way.from way.to
        (sent_as script u.from way.from values) (sent_as script u.to way.to values) sound way.route
        are.answer are.follows (record { at = u.from; of = at; is = refl })
        (record { at = u.to; of = there; is = refl }) in
        subst (Shows granted script (release_of s) values) (sym way.answers_are)
        (follow_shows t s values (way.way ++ way.codes ∷ []) way.from way.to way.codes u admits a
        are ends)

  -- ---- what breaks P11

  -- no message does by itself
  none_alone : (bytes : List ℕ) (r : Rule) (place : ℕ) → r ≡ Release → BytesBreak granted bytes r place → ⊥
  none_alone bytes r place is b = empty b.message (subst (λ (x : Rule). Breaks granted b.message x place) is b.breaks)
    where
      empty : (m : MessageView) → Breaks granted m Release place → ⊥
      empty m (inl h) = h.1
      empty m (inr (inl h)) = h.1
      empty m (inr (inr (i, s, lt, at, h))) = h.1

  pub release_left : (f : Finding) → f.rule ≡ Release → IsReal granted script f
      → (f.segment ≡ 0) × ((v : Visit) × Arrives script.steps v × IsUnreleased script v.step f.step)
  release_left f is real =
      let s = real.shown in
      let way =
      (last_two_messages script real.values (came_after at_first s.ends.sent real.answers) s.message sound).0
      (real.answers, record { ends = s.ends; after = refl }) in
      by (came_after at_first s.ends.sent real.answers) s.message s.of s.admitted s.breaks way.0 way.1 way.2
    where
      view_of : (bytes : List ℕ) (m n : MessageView) (other : List ℕ) → bytes ≡ other → IsMessage bytes m
          → IsMessage other n → m ≡ n
      view_of bytes m n other e a b = one_message bytes m n a (subst (λ (x : List ℕ). IsMessage x n) (sym e) b)

      by : (before : Before) (m : Sent) → m.step ≡ f.step → Admits script.fields real.values
          → BreaksBehind granted before m f.rule f.segment → (w : Visit) → IsSent script real.values w m
          → ComesAfter script real.values before w
          → (f.segment ≡ 0) × ((v : Visit) × Arrives script.steps v × IsUnreleased script v.step f.step)
      by at_first m of admits b w sent comes = absurd (none_alone m.bytes f.rule f.segment is b)
      by (behind b codes) m of admits (inl alone) w sent comes = absurd (none_alone m.bytes f.rule f.segment is alone)
      by (behind b codes) m of admits (inr (rule, place, r)) w sent comes =
          let v = comes.visit in
          let from = comes.is in
          let there : w.step ≡ f.step = sym (ap (λ (x : Sent). x.step) sent.is) ∙ of in
          let arrives = arrives_on v w codes comes.arrives comes.answer comes.follows in
          let earlier =
          view_of b.bytes r.earlier (message_view script from.at v.number real.values)
          (message_bytes script from.at v.number real.values) (ap (λ (x : Sent). x.bytes) from.is)
          r.was (read_as v from.at real.values comes.arrives from.of admits) in
          let now =
          view_of m.bytes r.message (message_view script sent.at w.number real.values)
          (message_bytes script sent.at w.number real.values) (ap (λ (x : Sent). x.bytes) sent.is)
          r.is (read_as w sent.at real.values arrives sent.of admits) in
          let leaves =
          subst
          (λ (x : MessageView).
          LeavesOrder (facts_alone x)
          (facts_alone (message_view script sent.at w.number real.values)))
          earlier
          (subst (λ (x : MessageView). LeavesOrder (facts_alone r.earlier) (facts_alone x)) now
          r.breaks.1) in
          let goes =
          ((followed_where_carried script v.step RELEASE f.step from.at sound from.of).0
          (record {
            from = v;
            codes = codes;
            to = w;
            arrives = comes.arrives;
            are =
                record {
                  of = refl;
                  answer = comes.answer;
                  has = r.breaks.0;
                  follows = comes.follows;
                  next = there;
                };
          })).1 in (
            place,
            (
              v,
              comes.arrives,
              record {
                from = from.at;
                at = from.of;
                to = sent.at;
                there = sym (ap (numbered script.steps) there) ∙ sent.of;
                follows = goes;
                leaves = record { values = real.values; admitted = admits; number = v.number; other = w.number; leaves = leaves };
              },
            ),
          )
