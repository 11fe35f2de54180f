-- What is said of a fault, and beside an answer.
use Rattle.std.proofs.Common.{◌≡◌, ◌∙◌, ◌≤◌, ◌==◌, arith, Bool, true, false, ℕ, List, [], ◌∷◌, ◌++◌, length, Option, refl, ap, sym, subst, inl, inr}
use Rattle.std.proofs.lemmas.Bool.{false≢true}
use Rattle.std.proofs.lemmas.Bool.Decides.{nat_tests}
use Rattle.fints_cli_files.specs.Streams.{ReadCounts, one_more}
use Rattle.fints_cli.proofs.Writes.{gets-more, gets-then-cut}
use Rattle.std.specs.Prelude.{codes}
use Rattle.fints_cli_texts.specs.declared.fault.Fault.TheVariants.{Memory, NoFinding, NoMessage, NoPart}
use Rattle.fints_cli_words.specs.declared.requests.Asked.{Asked}
use Rattle.fints_cli_words.specs.declared.requests.Asked.TheVariants.{Run}
use Rattle.fints_cli_words.specs.declared.requests.Request.{Request}
use Rattle.fints_cli_commands.specs.Commands.{failure_status, FailsFor}
use Rattle.fints_cli_commands.specs.Loading.{files_of, FollowsReading}
use Rattle.fints_cli_commands.specs.FailureText.{failure_text}
use Rattle.fints_cli_commands.specs.declared.failing.Failure.{Failure}
use Rattle.fints_cli_commands.specs.declared.failing.Failure.TheVariants.{Input, Unread}
use Rattle.fints_cli.specs.Responses.{FailsWith, IsSilent, SaysFirst, SaysText, GetsOrFails, fault_line, memory_line, line_of}

module _ (old new : Option (List ℕ)) (lost lost_after : ℕ) where
  -- nothing more is said under one premise where nothing is under another that follows from it
  pub first_under : (A B : Type 0) (text : List ℕ) → (B → A) → SaysFirst A text old new lost lost_after
      → SaysFirst B text old new lost lost_after
  first_under A B text h s = record { more = s.more; nothing_more = λ b. s.nothing_more (h b); said = s.said }

  -- the line of these words was printed, and they are those of the failure
  pub told_first : (A : Type 0) (f : Failure) (why more : List ℕ) → why ≡ failure_text f → (A → more ≡ [])
      → GetsOrFails old new lost lost_after (line_of (codes "error: ") why ++ more)
      → SaysFirst A (fault_line f) old new lost lost_after
  told_first A f why more is none told = record {
    more = more;
    nothing_more = none;
    said = subst (λ w. SaysText (line_of (codes "error: ") w ++ more) old new lost lost_after) is told;
  }

  -- only memory that ran out has status 4
  pub memory_first : (A : Type 0) (f : Failure) → failure_status f ≡ 4 → GetsOrFails old new lost lost_after memory_line
      → SaysFirst A (fault_line f) old new lost lost_after
  memory_first A (Input Memory) four told = record { more = []; nothing_more = λ _. refl; said = told }
  memory_first A (Input (NoMessage number)) four told = absurd (omega (arith, four))
  memory_first A (Input (NoFinding number)) four told = absurd (omega (arith, four))
  memory_first A (Input (NoPart number)) four told = absurd (omega (arith, four))
  memory_first A (Input _) four told = absurd (omega (arith, four))
  memory_first A (Unread input) four told = absurd (omega (arith, four))

-- what is said after nothing was
pub says_next : (old mid new : Option (List ℕ)) (a b c : ℕ) (text : List ℕ) → IsSilent old mid a b
    → SaysText text mid new b c → SaysText text old new a c
says_next old mid new a b c [] none said = (gets-more old mid new [] [] none.0 said.0, said.1 ∙ none.1)
says_next old mid new a b c (x ∷ text) none (inl told) =
    inl (gets-more old mid new [] (x ∷ text) none.0 told.0, told.1 ∙ none.1)
says_next old mid new a b c (x ∷ text) none (inr cut) =
    inr (gets-then-cut old mid new [] (x ∷ text) none.0 cut.0, cut.1 ∙ ap one_more none.1)

not_empty : (x : ℕ) (xs : List ℕ) → (length (x ∷ xs) == 0) ≡ true → ⊥
not_empty x xs zero = absurd (grind (arith, nat_tests, zero))

-- a text after an empty one, and after one that isn't empty
module _ (old new : Option (List ℕ)) (lost lost_after : ℕ) where
  pub says_after : (a b : List ℕ) (empty : Bool) → empty ≡ (length a == 0) → empty ≡ true
      → SaysText b old new lost lost_after → SaysText (a ++ b) old new lost lost_after
  says_after [] b empty is at said = said
  says_after (x ∷ xs) b empty is at said = let zero : (length (x ∷ xs) == 0) ≡ true = sym is ∙ at in absurd (not_empty x xs zero)

  pub says_with : (a b : List ℕ) (empty : Bool) → empty ≡ (length a == 0) → empty ≡ false
      → GetsOrFails old new lost lost_after (a ++ b) → SaysText (a ++ b) old new lost lost_after
  says_with [] b empty is at told = absurd (false≢true (sym at ∙ is))
  says_with (x ∷ xs) b empty is at told = told

-- the request has no answer, and the failure's status
pub fails_with : (asked : Asked) (request : Request) (holds : List ℕ → Option (List ℕ)) (before after : ReadCounts)
    (status : ℕ) (f : Failure) → asked ≡ Run request → failure_status f ≡ status → FailsFor request holds f
    → FollowsReading (files_of request) holds before after f → FailsWith status asked holds before after
fails_with asked request holds before after status f is at fails follows =
    subst (λ a. FailsWith status a holds before after) (sym is) (f, (at, fails, follows))

-- no failure has the status of an answer
pub failure_above : (f : Failure) → 2 ≤ failure_status f
failure_above (Input Memory) = omega arith
failure_above (Input (NoMessage number)) = omega arith
failure_above (Input (NoFinding number)) = omega arith
failure_above (Input (NoPart number)) = omega arith
failure_above (Input _) = omega arith
failure_above (Unread input) = omega arith
