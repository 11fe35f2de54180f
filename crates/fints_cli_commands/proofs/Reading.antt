-- What is said of files that are read one after another.
use Rattle.std.proofs.Common.{arith, ◌≡◌, ◌∙◌, ◌≤◌, ◌-◌, ◌^◌, ◌++◌, min, inl, inr, sym, subst, ap, ℕ, List, [], ◌∷◌}
use Rattle.std.proofs.Common.{Option, None, Some, IfErr, IfSome, Result, Ok, Err, length-append}
use Rattle.std.specs.Borrow.{Bor}
use Rattle.std.specs.Result.{IsErrAnd}
use Rattle.fints_cli_words.specs.Requests.{option_of}
use Rattle.fints_cli_commands.specs.declared.failing.Failure.{Failure}
use Rattle.fints_cli_commands.specs.declared.failing.Refused.{Refused}
use Rattle.fints_cli_texts.specs.declared.fault.Fault.{Fault}
use Rattle.fints_cli_commands.specs.declared.failing.Failure.TheVariants.{Input, Unread}
use Rattle.fints_cli_commands.specs.Loading.{Held, NamedFile, AreWithin, FollowsReading, HasUnreadable, IsUnreadable}
use Rattle.fints_cli_commands.specs.Loaded.{AreRead, IsOneUnread}
use Rattle.fints_cli_files.specs.Captures.{FedReader, HoldsCapture, IsReadFrom}
use Rattle.fints_cli_files.specs.Loading.{NoneFailed}
use Rattle.fints_cli_files.specs.Streams.{IsFile, ReadCounts, one_more}

-- what the exit of a `?` returns, where its fault is made into a refusal
pub of_refused : {T : Type 0} (r : Result T Refused) (e : Fault) (P : Fault → Type 0)
    → IsErrAnd r (λ f. f.fault ≡ e) → P e → IfErr r (λ f. P f.fault)
of_refused (Ok v) e P is p = tt
of_refused (Err f) e P is p = subst P (sym is) p

-- what the exit of a `?` returns
pub of_exit : {T E : Type 0} (r : Result T E) (e : E) (P : E → Type 0)
    → IsErrAnd r (λ f. f ≡ e) → P e → IfErr r P
of_exit (Ok v) e P is p = tt
of_exit (Err f) e P is p = subst P (sym is) p

-- what holds of the bytes of a file holds of what it holds
pub of_file : (P : List ℕ → Type 0) (held : Option (List ℕ)) (x : List ℕ) → IsFile held x → P x
    → IfSome held P
of_file P None x h p = tt
of_file P (Some a) x h p = subst P h p

-- what is said of a capture that holds the bytes of a file is said of the file
pub read_at : {T : Type 0} (Answers : List ℕ → T → Type 0) (held : Option (List ℕ)) (capture : FedReader) (told : T)
    → ((bytes : List ℕ) → HoldsCapture bytes capture → Answers bytes told)
    → IsReadFrom HoldsCapture held capture → IsReadFrom Answers held told
read_at Answers held capture told tells (bytes, file, kept) = (bytes, file, tells bytes kept)

-- ---- files that were read, and more of them

within_both : (files more : List NamedFile) (holds : Held)
    → AreWithin files holds → AreWithin more holds → AreWithin (files ++ more) holds
within_both [] more holds h i = i
within_both (file ∷ files) more holds h i = (h.0, within_both files more holds h.1 i)

pub both_read : {files more : List NamedFile} {holds kept last : Held} {a b c : ReadCounts}
    → AreRead files holds kept a b → AreRead more kept last b c → AreRead (files ++ more) holds last a c
both_read {files} {more} {holds} first then = record {
  within = within_both files more holds first.within (subst (AreWithin more) first.keeps then.within);
  fine = then.fine ∙ first.fine;
  counted = omega (arith, first.counted, then.counted);
  calls = omega (arith, first.calls, then.calls, length-append files more);
  keeps = then.keeps ∙ first.keeps;
}

-- ---- files, one of them not loaded, and more of them

module _ (more : List NamedFile) (holds : Held) (a b : ReadCounts) where
  unreadable_first : (files : List NamedFile) (option : List ℕ)
      → HasUnreadable files holds a b option → HasUnreadable (files ++ more) holds a b option
  unreadable_first [] option h = absurd h
  unreadable_first (file ∷ files) option (inl h) = inl h
  unreadable_first (file ∷ files) option (inr h) = inr (h.0, unreadable_first files option h.1)

  unreadable_later : (files : List NamedFile) (option : List ℕ) → AreWithin files holds
      → HasUnreadable more holds a b option → HasUnreadable (files ++ more) holds a b option
  unreadable_later [] option within h = h
  unreadable_later (file ∷ files) option within h = inr (within.0, unreadable_later files option within.1 h)

  follows_first : (files : List NamedFile) (failure : Failure)
      → FollowsReading files holds a b failure → FollowsReading (files ++ more) holds a b failure
  follows_first files (Unread input) h = unreadable_first files (option_of input) h
  follows_first files (Input fault) h = h

-- what is unreadable since later reads is so since earlier ones, where none of these failed
module _ (holds : Held) (a b c : ReadCounts) (fine : NoneFailed a b)
    (counted : min a.calls (2 ^ 64 - 1) ≤ b.calls) where
  one_since : (held : Option (List ℕ)) (limit : ℕ) → IsUnreadable held limit b c → IsUnreadable held limit a c
  one_since held limit (inl failed) = inl (failed ∙ ap one_more fine)
  one_since held limit (inr (inl longer)) = inr (inl longer)
  one_since held limit (inr (inr used)) = inr (inr (omega arith))

  unreadable_since : (files : List NamedFile) (option : List ℕ)
      → HasUnreadable files holds b c option → HasUnreadable files holds a c option
  unreadable_since [] option h = absurd h
  unreadable_since (file ∷ files) option (inl h) = inl (h.0, one_since (holds file.path) file.limit h.1)
  unreadable_since (file ∷ files) option (inr h) = inr (h.0, unreadable_since files option h.1)

  follows_later : (files more : List NamedFile) (failure : Failure) → AreWithin files holds
      → FollowsReading more holds b c failure → FollowsReading (files ++ more) holds a c failure
  follows_later files more (Unread input) within h =
      unreadable_later more holds a c files (option_of input) within (unreadable_since more (option_of input) h)
  follows_later files more (Input fault) within h = h ∙ fine

pub first_unread : {files : List NamedFile} (more : List NamedFile) {holds kept : Held}
    {a b : ReadCounts} {failure : Failure}
    → IsOneUnread files holds kept a b failure → IsOneUnread (files ++ more) holds kept a b failure
first_unread {files} more {holds} {kept} {a} {b} {failure} h = record {
  follows = follows_first more holds a b files failure h.follows;
  unloaded = h.unloaded;
  calls = omega (arith, h.calls, length-append files more);
  keeps = h.keeps;
}

pub later_unread : {files more : List NamedFile} {holds kept last : Held}
    {a b c : ReadCounts} {failure : Failure}
    → AreRead files holds kept a b → IsOneUnread more kept last b c failure
    → IsOneUnread (files ++ more) holds last a c failure
later_unread {files} {more} {holds} {kept} {last} {a} {b} {c} {failure} first h = record {
  follows = follows_later holds a b c first.fine first.counted files more failure first.within
      (subst (λ (held : Held). FollowsReading more held b c failure) first.keeps h.follows);
  unloaded = h.unloaded;
  calls = omega (arith, first.calls, h.calls, length-append files more);
  keeps = h.keeps ∙ first.keeps;
}
