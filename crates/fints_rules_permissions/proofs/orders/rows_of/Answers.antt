use Rattle.std.proofs.Common.{map, ap, cond, ◌∙◌, ◌≡◌, ◌<◌, ◌+◌, arith, sym, Some, None, get_or, length, true, false}
use Rattle.std.specs.Prelude.{Any, is_some}
use Rattle.indexmap.specs.IndexMap.{get}
use Rattle.fints_rules_permissions.specs.OrderKeys.{key_eq, row_key}
use Rattle.toml.specs.View.{view}
use Rattle.fints_rules_permissions.specs.Orders.{form_of, row_of, IsSameOrder, IsNoRow, IsSecondRow}
use Rattle.fints_rules_permissions.proofs.FormLemmas.{forms_more, stands, stands_not}
use Rattle.fints_rules_permissions.proofs.OrderLemmas.{first_bad, no_data, read_at, read_within, rows_more}
use Rattle.fints_rules_permissions.proofs.orders.rows_of.Goals as goal

pub returns-in_default-clause-fault : goal.returns-in_default-clause-fault
returns-in_default-clause-fault c =
    let ds = map view c.args.entries.now in
    let all : c.as_slice-entry-items.result.now ≡ map row_of ds = c.as_slice-entry-items.ensures.value ∙ c.in_ok-read.ensures in
    let here : c.loop-entry.entry-index < length ds = read_within ds _ c.loop-entry.entry-index all (omega arith) in
    let read : row_of (get_or ds c.loop-entry.entry-index no_data) ≡ None =
    read_at ds _ c.loop-entry.entry-index c.entry-item.result all here c.entry-item.is ∙ c.in_default.is in
    first_bad ds c.loop-entry.entry-index (c.loop-entry.number + 1) no_data
    c.loop-entry.rows.items IsNoRow here (omega arith) c.loop-entry.invariant.rows read

pub returns-then-contains_key-clause-fault : goal.returns-then-contains_key-clause-fault
returns-then-contains_key-clause-fault c =
    let ds = map view c.args.entries.now in
    let all : c.as_slice-entry-items.result.now ≡ map row_of ds = c.as_slice-entry-items.ensures.value ∙ c.in_ok-read.ensures in
    let here : c.loop-entry.entry-index < length ds = read_within ds _ c.loop-entry.entry-index all (omega arith) in
    let read : row_of (get_or ds c.loop-entry.entry-index no_data) ≡ Some c.in-Some.row =
    read_at ds _ c.loop-entry.entry-index c.entry-item.result all here c.entry-item.is ∙ c.in-Some.is in
    let held : is_some (form_of c.loop-entry.rows.items c.in-Some.row.kind c.in-Some.row.version) ≡ true =
    ap is_some (sym (c.loop-entry.invariant.forms (row_key c.in-Some.row)))
    ∙ ap (λ k. is_some (get key_eq c.loop-entry.forms k)) (sym c.row_key-key.ensures)
    ∙ sym c.contains_key.ensures ∙ c.if-contains_key.true in
    let two : Any (IsSameOrder c.in-Some.row) c.loop-entry.rows.items = stands c.loop-entry.rows.items c.in-Some.row held in
    first_bad ds c.loop-entry.entry-index (c.loop-entry.number + 1) no_data
    c.loop-entry.rows.items IsSecondRow here (omega arith) c.loop-entry.invariant.rows
    (c.in-Some.row, read, two)

pub loop-entry-preserved : goal.loop-entry-preserved
loop-entry-preserved c =
    let ds = map view c.args.entries.now in
    let all : c.as_slice-entry-items.result.now ≡ map row_of ds = c.as_slice-entry-items.ensures.value ∙ c.in_ok-read.ensures in
    let here : c.loop-entry.entry-index < length ds = read_within ds _ c.loop-entry.entry-index all (omega arith) in
    let read : row_of (get_or ds c.loop-entry.entry-index no_data) ≡ Some c.in-Some.row =
    read_at ds _ c.loop-entry.entry-index c.entry-item.result all here c.entry-item.is ∙ c.in-Some.is in
    let fresh : is_some (get key_eq c.loop-entry.forms (row_key c.in-Some.row)) ≡ false =
    ap (λ k. is_some (get key_eq c.loop-entry.forms k)) (sym c.row_key-key.ensures)
    ∙ sym c.contains_key.ensures ∙ c.if-contains_key.false in
    let one : Any (IsSameOrder c.in-Some.row) c.loop-entry.rows.items → ⊥ =
    stands_not c.loop-entry.rows.items c.in-Some.row
    (ap is_some (sym (c.loop-entry.invariant.forms (row_key c.in-Some.row))) ∙ fresh) in
    record {
      counted = omega arith;
      forms =
          rw c.in_ok-push.ensures.items
          (forms_more c.loop-entry.rows.items c.in-Some.row (get key_eq c.loop-entry.forms)
          (get key_eq c.insert.new.self) c.loop-entry.invariant.forms fresh
          (λ q.
          c.in_ok-insert.ensures.updates.0 q
          ∙ ap (λ k. cond (key_eq k q) (Some c.in-Some.row.form) (get key_eq c.loop-entry.forms q))
          c.row_key-key.ensures));
      rows =
          rw c.in_ok-push.ensures.items
          (rows_more ds c.loop-entry.entry-index no_data
          c.loop-entry.rows.items c.in-Some.row here c.loop-entry.invariant.rows read one);
    }
