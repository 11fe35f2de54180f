-- The text of a run, as its messages are made one by one.
use Rattle.std.proofs.Common.{◌≡◌, ◌<◌, ◌+◌, ℕ, zero, suc, List, [], ◌∷◌, ◌++◌, length, take, get_or, ap, sym, subst, ◌∙◌, refl, Option, Some, All, arith}
use Rattle.std.specs.Prelude.{Contains}
use Rattle.std.proofs.lemmas.Option.{same_Some}
use Rattle.std.proofs.lemmas.List.{take_more, append-nil}
use Rattle.std.proofs.lemmas.List.Concat.{flat_map-append}
use Rattle.std.proofs.lemmas.List.Elements.{All-nil, All-cons, All-head, All-tail, Contains-append_right}
use Rattle.fints_script_cases.specs.declared.values.NamedValue.{NamedValue}
use Rattle.fints_script.specs.Numbered.{numbered_at}
use Rattle.fints_script.specs.Scripts.{ScriptValue}
use Rattle.fints_script.specs.Steps.{StepValue}
use Rattle.fints_wire.specs.Messages.{message_bytes}
use Rattle.fints_wire.specs.Runs.{AreSent, AreVisits, IsSent, IsWithin, Run}
use Rattle.fints_wire.specs.declared.dialogue.Sent.{Sent}
use Rattle.fints_wire.specs.declared.dialogue.Visit.{Visit}
use Rattle.fints_cli_texts.specs.declared.fault.Fault.{Fault}
use Rattle.fints_cli_texts.specs.declared.fault.Fault.TheVariants.{Memory, NoMessage}
use Rattle.fints_cli_scripts.specs.RunText.{message_text, run_text, IsUnsent, TellsRun, IsNotReached, IsAdmittedRefusal}
use Rattle.fints_cli_scripts.specs.RunVisits.{TellsVisits, TellsVisit, IsUnvisited, IsUnvisitedRefusal}

-- ---- message by message

sent_more : (script : ScriptValue) (values : List NamedValue) (vs : List Visit) (ms : List Sent) (v : Visit)
    (m : Sent) → AreSent script values vs ms → IsSent script values v m
    → AreSent script values (vs ++ v ∷ []) (ms ++ m ∷ [])
sent_more script values [] [] v m are is = (is, tt)
sent_more script values [] (x ∷ xs) v m are is = absurd are
sent_more script values (u ∷ us) [] v m are is = absurd are
sent_more script values (u ∷ us) (x ∷ xs) v m are is = (are.0, sent_more script values us xs v m are.1 is)

pub tells_more : (script : ScriptValue) (values : List NamedValue) (visits : List Visit) (i : ℕ) (d : Visit)
    (text new : List ℕ) (m : Sent) → i < length visits → IsSent script values (get_or visits i d) m
    → new ≡ text ++ message_text script.steps m
    → TellsVisits script values (take i visits) text → TellsVisits script values (take (i + 1) visits) new
tells_more script values visits i d text new m less is e t =
    let one : run_text script.steps (m ∷ []) ≡ message_text script.steps m = append-nil (message_text script.steps m) in
    record {
      sent = t.sent ++ m ∷ [];
      messages =
          subst (λ (vs : List Visit). AreSent script values vs (t.sent ++ m ∷ []))
          (sym (take_more visits i d less))
          (sent_more script values (take i visits) t.sent (get_or visits i d) m t.messages is);
      text_is =
          e ∙ ap (λ (x : List ℕ). x ++ message_text script.steps m) t.text_is
          ∙ ap (λ (x : List ℕ). run_text script.steps t.sent ++ x) (sym one)
          ∙ sym (flat_map-append (message_text script.steps) t.sent (m ∷ []));
    }

-- ---- all messages of visits

exists : (script : ScriptValue) (values : List NamedValue) (visits : List Visit)
    → All (IsWithin script.steps) visits → (sent : List Sent) × AreSent script values visits sent
exists script values [] within = ([], tt)
exists script values (v ∷ vs) within =
    let here = All-head (IsWithin script.steps) v vs within in
    let at = numbered_at script.steps v.step here.from here.to in
    let m : Sent = record { step = v.step; number = v.number; bytes = message_bytes script at.0 v.number values } in
    let (rest, are) = exists script values vs (All-tail (IsWithin script.steps) v vs within) in
    (m ∷ rest, (record { at = at.0; of = at.1; is = refl }, are))

one_sent : (script : ScriptValue) (values : List NamedValue) (v : Visit) (m n : Sent)
    → IsSent script values v m → IsSent script values v n → m ≡ n
one_sent script values v m n a b =
    let same : a.at ≡ b.at = same_Some a.at b.at (sym a.of ∙ b.of) in
    a.is ∙ ap (λ (s : StepValue). record { step = v.step; number = v.number; bytes = message_bytes script s v.number values }) same ∙ sym b.is

among : (script : ScriptValue) (values : List NamedValue) (visits : List Visit) (sent : List Sent) (v : Visit)
    (m : Sent) → AreSent script values visits sent → Contains visits v → IsSent script values v m
    → Contains sent m
among script values [] sent v m are (k, lt, at) is = absurd (omega arith)
among script values (u ∷ us) [] v m are has is = absurd are
among script values (u ∷ us) (x ∷ xs) v m are (zero, lt, at) is = (
  0,
  omega arith,
  one_sent script values v x m (subst (λ (w : Visit). IsSent script values w x) at are.0) is,
)
among script values (u ∷ us) (x ∷ xs) v m are (suc k, lt, at) is =
    Contains-append_right (x ∷ []) xs m (among script values us xs v m are.1 (k, omega arith, at) is)

none_sent : (script : ScriptValue) (values : List NamedValue) (visits : List Visit) (sent : List Sent)
    (number : ℕ) → AreSent script values visits sent → IsUnvisited visits number → IsUnsent sent number
none_sent script values [] [] number are none = All-nil (λ (m : Sent). m.number ≡ number → ⊥)
none_sent script values [] (x ∷ xs) number are none = absurd are
none_sent script values (v ∷ vs) [] number are none = absurd are
none_sent script values (v ∷ vs) (x ∷ xs) number are none =
    All-cons (λ (m : Sent). m.number ≡ number → ⊥) x xs
    (λ e. All-head (λ (w : Visit). w.number ≡ number → ⊥) v vs none (sym (ap (λ (m : Sent). m.number) are.0.is) ∙ e))
    (none_sent script values vs xs number are.1 (All-tail (λ (w : Visit). w.number ≡ number → ⊥) v vs none))

-- ---- runs

run_of : (script : ScriptValue) (values : List NamedValue) (answers : List (List ℕ)) (visits : List Visit)
    (sent : List Sent) → AreVisits script.steps answers visits → AreSent script values visits sent
    → Run script values answers sent
run_of script values answers visits sent vs are =
    record {
      later = vs.later;
      after = vs.after;
      messages = subst (λ (ws : List Visit). AreSent script values ws sent) vs.first are;
    }

pub tells_one : (script : ScriptValue) (values : List NamedValue) (answers : List (List ℕ))
    (visits : List Visit) (number : ℕ) (text : List ℕ) → All (IsWithin script.steps) visits
    → AreVisits script.steps answers visits → TellsVisit script values visits number text
    → TellsRun script values answers (Some number) text
tells_one script values answers visits number text within vs t =
    let (sent, are) = exists script values visits within in
    record {
      sent = sent;
      run = run_of script values answers visits sent vs are;
      text_is =
          record {
            message =
                t.message;
            among = among script values visits sent t.visit t.message are t.among t.sent;
            number_is = ap (λ (m : Sent). m.number) t.sent.is
                ∙ t.number_is;
            bytes_are = t.text_is;
          };
    }

not_reached : (script : ScriptValue) (values : List NamedValue) (answers : List (List ℕ))
    (visits : List Visit) (number : ℕ) → All (IsWithin script.steps) visits
    → AreVisits script.steps answers visits → IsUnvisited visits number
    → IsNotReached script values answers number
not_reached script values answers visits number within vs none =
    let (sent, are) = exists script values visits within in
    record {
      sent = sent;
      run = run_of script values answers visits sent vs are;
      unsent = none_sent script values visits sent number are none;
    }

pub unreached : (script : ScriptValue) (values : List NamedValue) (answers : List (List ℕ))
    (visits : List Visit) (only : Option ℕ) (number : ℕ) (f : Fault) → All (IsWithin script.steps) visits
    → AreVisits script.steps answers visits → only ≡ Some number → IsUnvisitedRefusal visits number f
    → IsAdmittedRefusal script values answers only f
unreached script values answers visits only number Memory within vs is h = tt
unreached script values answers visits only number (NoMessage n) within vs is h =
    (is ∙ ap Some (sym h.0), subst (IsNotReached script values answers) (sym h.0) (not_reached script values answers visits number within vs h.1))
unreached script values answers visits only number _ within vs is h = absurd h
