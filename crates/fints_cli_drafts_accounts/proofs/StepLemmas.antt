-- The steps of the walk over the rows of HIUPD.
use Rattle.std.proofs.Common.{◌≡◌, ℕ, ◌+◌, ◌≤◌, ◌⊎◌, inl, inr, true, false, List, [], ◌∷◌, ◌++◌, length, take, sym, ap, subst, ◌∙◌, arith}
use Rattle.std.specs.BTreeSet.{BTreeSet, contains}
use Rattle.std.specs.List.{Contains}
use Rattle.std.specs.Prelude.{Vec}
use Rattle.std.specs.declared.alloc.Global.{Global}
use Rattle.std.proofs.lemmas.Bool.{false≢true}
use Rattle.std.proofs.lemmas.List.{length_push, take_all}
use Rattle.fints_params.specs.declared.rows.AccountRow.{AccountRow}
use Rattle.fints_script_fields.specs.Listed.{account_text}
use Rattle.fints_cli_drafts_accounts.specs.Accounts.{AreOthers, Asked, Fits, IsPermitted, ListsAll, filled, row_items}
use Rattle.fints_cli_drafts_accounts.specs.Walks.{HasText, Holds, HoldsTexts, Shows, vec_cmp}
use Rattle.fints_cli_drafts_accounts.specs.declared.listing.AccountList.{AccountList}
use Rattle.fints_cli_drafts_accounts.specs.declared.listing.Walk.{Walk}
use Rattle.fints_cli_drafts_accounts.proofs.FillLemmas.{length-filled}
use Rattle.fints_cli_drafts_accounts.proofs.OtherLemmas.{none_yet, one_met, one_permitted, one_refused, permitted_counts, refused_counts}
use Rattle.fints_cli_drafts_accounts.proofs.TextLemmas.{FindsMore, contains_text, text_contains, texts_permitted, texts_refused, texts_same}

-- no text is found yet
pub texts_none : (seen : BTreeSet (Vec ℕ Global)) → seen.keys ≡ [] → HoldsTexts [] [] (contains vec_cmp seen)
texts_none seen empty = record {
  sound = λ k e. absurd (false≢true (sym (ap (λ (ks : List (Vec ℕ Global)). contains vec_cmp (record { keys = ks }) k) empty) ∙ e));
  whole = λ k h. elim h [ inl a ↦ absurd (omega (arith, a.2)) | inr a ↦ absurd (omega (arith, a.2)) ];
}

-- the walk over no row
pub starts : (a : Asked) (list : AccountList) (seen new : BTreeSet (Vec ℕ Global)) (k : Vec ℕ Global)
    → k.items ≡ account_text a.recorded → seen.keys ≡ [] → FindsMore k (contains vec_cmp seen) (contains vec_cmp new)
    → list.values.items ≡ a.recorded ∷ [] → list.left_out ≡ 0 → list.further ≡ 0
    → Holds a [] (record { list = list; seen = new })
starts a list seen new k at empty more values left_out further = record {
  permitted = [];
  refused = [];
  others = none_yet a;
  shows = record { values = values; left_out = left_out; further = further };
  texts = texts_permitted k (contains vec_cmp seen) (contains vec_cmp new) more [] [] a.recorded at (texts_none seen empty);
}

module _ (a : Asked) (rows : List AccountRow) (row : AccountRow) (walk : Walk) (old : Holds a rows walk) where
  -- a row that doesn't fit
  pub step_none : (Fits a row → ⊥) → Holds a (rows ++ row ∷ []) walk
  step_none unfit = record {
    permitted = old.permitted;
    refused = old.refused;
    others = one_met a rows row old.permitted old.refused old.others (λ fits. absurd (unfit fits));
    shows = old.shows;
    texts = old.texts;
  }

  module _ (new : BTreeSet (Vec ℕ Global)) (k : Vec ℕ Global) (items : List (List ℕ)) (fits : Fits a row) (items_are : items ≡ filled a.form a.recorded row) (at : k.items ≡ account_text items) (more : FindsMore k (contains vec_cmp walk.seen) (contains vec_cmp new)) where
    at_filled : k.items ≡ account_text (filled a.form a.recorded row)
    at_filled = at ∙ ap (λ (l : List (List ℕ)). account_text l) items_are

    count : length (filled a.form a.recorded row) ≡ length a.recorded
    count = length-filled a.recorded (row_items a.form row)

    is_met : contains vec_cmp walk.seen k ≡ true
        → Contains (a.recorded ∷ old.permitted) (filled a.form a.recorded row)
        ⊎ Contains old.refused (filled a.form a.recorded row)
    is_met found =
        elim (old.texts.sound k found) [
          | inl t ↦ inl (text_contains (length a.recorded) (a.recorded ∷ old.permitted) (filled a.form a.recorded row)
              (permitted_counts a rows row old.permitted old.refused old.others) count
              (subst (λ (l : List ℕ). HasText (a.recorded ∷ old.permitted) l) at_filled t))
          | inr t ↦ inr (text_contains (length a.recorded) old.refused (filled a.form a.recorded row)
              (refused_counts a rows row old.permitted old.refused old.others) count
              (subst (λ (l : List ℕ). HasText old.refused l) at_filled t))
        ]

    -- a row whose items were met
    pub step_met : contains vec_cmp walk.seen k ≡ true → Holds a (rows ++ row ∷ []) (record { list = walk.list; seen = new })
    step_met found = record {
      permitted = old.permitted;
      refused = old.refused;
      others = one_met a rows row old.permitted old.refused old.others (λ _. is_met found);
      shows = old.shows;
      texts = texts_same k (contains vec_cmp walk.seen) (contains vec_cmp new) more (a.recorded ∷ old.permitted) old.refused old.texts found;
    }

    -- a row whose items are new, and that the bank permits the order for
    pub step_permitted : (list : AccountList) → contains vec_cmp walk.seen k ≡ false → IsPermitted a items
        → ((permitted refused : List (List (List ℕ))) → Shows permitted refused walk.list → Shows (permitted ++ items ∷ []) refused list)
        → Holds a (rows ++ row ∷ []) (record { list = list; seen = new })
    step_permitted list unfound allowed shows =
        let f = filled a.form a.recorded row in
        record {
          permitted = old.permitted ++ f ∷ [];
          refused = old.refused;
          others = one_permitted a rows row old.permitted old.refused old.others fits
              (subst (λ (l : List (List ℕ)). IsPermitted a l) items_are allowed)
              (λ c. false≢true (sym unfound ∙ old.texts.whole k
              (inl (subst (λ (l : List ℕ). HasText (a.recorded ∷ old.permitted) l) (sym at_filled) (contains_text (a.recorded ∷ old.permitted) f c)))));
          shows = subst (λ (l : List (List ℕ)). Shows (a.recorded ∷ old.permitted ++ l ∷ []) old.refused list) items_are
              (shows (a.recorded ∷ old.permitted) old.refused old.shows);
          texts = texts_permitted k (contains vec_cmp walk.seen) (contains vec_cmp new) more (a.recorded ∷ old.permitted) old.refused f at_filled old.texts;
        }

    -- a row whose items are new, and that the bank doesn't permit the order for
    pub step_refused : (list : AccountList) → contains vec_cmp walk.seen k ≡ false → (IsPermitted a items → ⊥)
        → list.values.items ≡ walk.list.values.items → list.left_out ≡ walk.list.left_out + 1
        → list.further ≡ walk.list.further
        → Holds a (rows ++ row ∷ []) (record { list = list; seen = new })
    step_refused list unfound locked values left_out further =
        let f = filled a.form a.recorded row in
        record {
          permitted = old.permitted;
          refused = old.refused ++ f ∷ [];
          others = one_refused a rows row old.permitted old.refused old.others fits
              (λ allowed. locked (subst (λ (l : List (List ℕ)). IsPermitted a l) (sym items_are) allowed))
              (λ c. false≢true (sym unfound ∙ old.texts.whole k
              (inr (subst (λ (l : List ℕ). HasText old.refused l) (sym at_filled) (contains_text old.refused f c)))));
          shows = record {
            values = values ∙ old.shows.values;
            left_out = left_out ∙ ap (λ (n : ℕ). n + 1) old.shows.left_out ∙ sym (length_push old.refused f);
            further = further ∙ old.shows.further;
          };
          texts = texts_refused k (contains vec_cmp walk.seen) (contains vec_cmp new) more (a.recorded ∷ old.permitted) old.refused f at_filled old.texts;
        }

-- the walk over all rows
pub lists_all : (a : Asked) (n : ℕ) (walk : Walk) → length a.rows.accounts ≤ n → Holds a (take n a.rows.accounts) walk
    → ListsAll a walk.list
lists_all a n walk whole holds = record {
  permitted = holds.permitted;
  refused = holds.refused;
  others = subst (λ (rows : List AccountRow). AreOthers a rows holds.permitted holds.refused) (take_all n a.rows.accounts whole) holds.others;
  values = holds.shows.values;
  left_out = holds.shows.left_out;
  further = holds.shows.further;
}
