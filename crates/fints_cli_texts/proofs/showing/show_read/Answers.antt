use Rattle.std.proofs.Common.{◌++◌, ◌∙◌, ap, sym, subst}
use Rattle.std.specs.List.{flat_map}
use Rattle.fints_params.specs.Captures.{IsBothReadOf}
use Rattle.fints_cli_texts.specs.Show.{code_line, rows_text, IsMemoryOrShowFault}
use Rattle.fints_cli_texts.proofs.ShowLemmas.{kept}
use Rattle.fints_cli_texts.proofs.showing.show_read.Goals as goal

pub returns-in-Err-clause-refused : goal.returns-in-Err-clause-refused
returns-in-Err-clause-refused c =
    λ capture read. subst (IsMemoryOrShowFault capture) (sym c.from.ensures)
    (kept capture c.in-Err.fault (subst (IsBothReadOf capture) c.in-Err.is read))

pub returns-clause-shown : goal.returns-clause-shown
returns-clause-shown c =
    let told = c.in-Ok.told in
    let codes = c.as_slice.result.now in
    let rows = c.in_ok-write_params.ensures ∙ ap (λ xs. xs ++ rows_text told.params) c.in_ok-text.ensures.items in
    λ capture read.
    let both = subst (IsBothReadOf capture) c.in-Ok.is read in
    record {
      rows = told.params;
      feedback = told.codes.items;
      rows_are = both.0;
      feedback_is = both.1;
      text_is =
          c.in_ok-write_codes.ensures ∙ ap (λ xs. xs ++ flat_map code_line codes) rows
          ∙ ap (λ cs. rows_text told.params ++ flat_map code_line cs) c.as_slice.ensures.value;
    }
