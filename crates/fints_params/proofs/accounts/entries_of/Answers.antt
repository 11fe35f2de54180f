use Rattle.std.proofs.Common.{◌≡◌, ◌∷◌, [], ◌++◌, ◌∙◌, ap, drop, length-drop, sym, arith}
use Rattle.std.specs.List.{filter_map, count_by}
use Rattle.std.proofs.lemmas.List.{append-nil, drop_all}
use Rattle.std.proofs.lemmas.List.Sums.{count_by-le-length}
use Rattle.fints_params.specs.Accounts.{entry_of, is_odd_element}
use Rattle.fints_params.proofs.accounts.entries_of.Goals as goal

pub overflow_add-skipped : goal.overflow_add-skipped
overflow_add-skipped c =
    let elements = c.args.elements.now in
    omega (
      arith,
      c.loop-at.invariant.skipped,
      count_by-le-length is_odd_element (drop 9 elements),
      length-drop 9 elements,
      c.in_ok-skipped.ensures.skipped,
      count_by-le-length is_odd_element (c.items.result ∷ []),
      c.len.ensures.count,
      c.len.ensures.bound,
    )

pub returns-clause-entries : goal.returns-clause-entries
returns-clause-entries c =
    let elements = c.args.elements.now in
    let entries = c.loop-at.entries.items in
    let none : drop c.loop-at.at elements ≡ [] = drop_all c.loop-at.at elements (omega (arith, c.loop-at-test.false, c.len.ensures.count)) in
    sym (append-nil entries) ∙ ap (λ es. entries ++ filter_map entry_of es) (sym none) ∙ c.loop-at.invariant.entries

pub returns-clause-skipped : goal.returns-clause-skipped
returns-clause-skipped c =
    let elements = c.args.elements.now in
    let none : drop c.loop-at.at elements ≡ [] = drop_all c.loop-at.at elements (omega (arith, c.loop-at-test.false, c.len.ensures.count)) in
    omega (arith, c.loop-at.invariant.skipped, ap (count_by is_odd_element) none)
