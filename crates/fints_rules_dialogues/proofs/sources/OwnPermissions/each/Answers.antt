use Rattle.std.proofs.Common.{drop, take, ◌+◌, ◌≤◌, length, inr, refl, subst, sym}
use Rattle.std.specs.List.{AllByRecursion}
use Rattle.std.proofs.lemmas.List.{drop_all, take_all}
use Rattle.std.proofs.lemmas.Result.{err_from_is_err_and}
use Rattle.fints_rules_dialogues.specs.Sources.{IsGranting}
use Rattle.fints_rules_dialogues.proofs.SourceLemmas.{all_granted, at_place, bank_lacked, one_granted}
use Rattle.fints_rules_dialogues.proofs.Turns.{drop_here, split_here, take_here}
use Rattle.fints_rules_dialogues.proofs.sources.OwnPermissions.each.Goals as goal

pub loop-granting-init : goal.loop-granting-init
loop-granting-init c =
    record {
      banks_are = c.in_ok-banks.ensures;
      users_are = c.in_ok-users.ensures;
      granted_are = rw c.new-bases.ensures.items refl;
    }

pub returns-in_err-basis_at-clause-refused : goal.returns-in_err-basis_at-clause-refused
returns-in_err-basis_at-clause-refused c =
    let xs = c.as_slice-all.result.now in
    let i = c.loop-granting.granting-index in
    let g = c.granting-item.result in
    let orders = c.self.inside.orders.now in
    let each = subst (AllByRecursion (IsGranting orders)) (sym c.as_slice-all.ensures.value) c.self.invariant.0 in
    let so_far = rw (drop_here xs i g c.loop-granting-test.true c.granting-item.is) at c.loop-granting.invariant in
    let split = split_here xs i g c.loop-granting-test.true c.granting-item.is in
    let at =
    at_place orders xs (take i xs) g (drop (i + 1) xs) c.loop-granting.banks c.loop-granting.users
    c.loop-granting.bases.items split each so_far in
    let none = c.in_err-basis_at.ensures.refused.1 orders (take i xs) (drop (i + 1) xs) at in
    let p = err_from_is_err_and c.from_residual-in_err-basis_at.result c.from_residual-in_err-basis_at.ensures.1 in
    rw (p.1, p.2, ← c.self.view_is, ← c.as_slice-all.ensures.value)
    (inr (bank_lacked xs (take i xs) g (drop (i + 1) xs) split none, c.in_err-basis_at.ensures.refused.0))

pub loop-granting-preserved : goal.loop-granting-preserved
loop-granting-preserved c =
    let xs = c.as_slice-all.result.now in
    let i = c.loop-granting.granting-index in
    let g = c.granting-item.result in
    let orders = c.self.inside.orders.now in
    let each = subst (AllByRecursion (IsGranting orders)) (sym c.as_slice-all.ensures.value) c.self.invariant.0 in
    let so_far = rw (drop_here xs i g c.loop-granting-test.true c.granting-item.is) at c.loop-granting.invariant in
    let split = split_here xs i g c.loop-granting-test.true c.granting-item.is in
    let at =
    at_place orders xs (take i xs) g (drop (i + 1) xs) c.loop-granting.banks c.loop-granting.users
    c.loop-granting.bases.items split each so_far in
    let one = c.in_ok-basis_at.ensures.granted orders (take i xs) (drop (i + 1) xs) at c.self.invariant.1 in
    rw (c.in_ok-push.ensures.items, take_here xs i g c.loop-granting-test.true c.granting-item.is)
    (one_granted orders xs (take i xs) g (drop (i + 1) xs) c.loop-granting.banks c.loop-granting.users
    c.note.new.sources c.note-in-loop-granting.new.sources c.loop-granting.bases.items c.in_ok-basis_at.field-0 so_far
    one c.in_ok-note.ensures c.in_ok-note-2.ensures)

pub returns-clause-granted : goal.returns-clause-granted
returns-clause-granted c =
    let xs = c.as_slice-all.result.now in
    let i = c.loop-granting.granting-index in
    let le : length xs ≤ i = c.loop-granting-test.false in
    rw (← c.self.view_is, ← c.as_slice-all.ensures.value)
    (all_granted c.self.inside.orders.now xs c.loop-granting.banks c.loop-granting.users
    c.loop-granting.bases.items (rw (take_all i xs le, drop_all i xs le) at c.loop-granting.invariant))
