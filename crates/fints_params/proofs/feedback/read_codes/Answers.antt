use Rattle.std.proofs.Common.{◌≡◌, ◌∙◌, ◌<◌, ◌+◌, [], map, length, get_or, Some, ap, sym, refl, arith}
use Rattle.std.specs.Prelude.{position}
use Rattle.std.specs.Option.{option_map}
use Rattle.std.proofs.lemmas.List.{length-map, get_or-map}
use Rattle.fints_params.specs.Feedback.{first_value, codes_fault, is_bad_code}
use Rattle.fints_params.proofs.FoundCodes.{left_skip, left_more, left_bad, left_end}
use Rattle.fints_params.proofs.feedback.read_codes.Goals as goal
use Rattle.fints_params.proofs.feedback.read_codes.Goals.{then-not-is_empty+in-Some+in_ok-push-in-Some, else-not-is_empty}

pub returns-in-None-clause-fault : goal.returns-in-None-clause-fault
returns-in-None-clause-fault c =
    let es = c.args.segment.now.elements in
    let vs = map first_value es in
    let i = c.loop-i.i in
    let v = c.value-text.result.now in
    let lt : i < length vs = omega (arith, length-map es first_value, c.loop-i-test.true) in
    let e : get_or vs i [] ≡ v = sym (c.value-text.ensures ∙ ap first_value c.items.ensures.items ∙ sym (get_or-map first_value es i [] [] (omega arith))) in
    let z : 0 < length v = grind arith in
    let p : position is_bad_code vs ≡ Some i = left_bad vs i c.loop-i.codes.items c.args.codes.now.items v c.loop-i.invariant lt e z (sym c.in-None.ensures) in
    let f : codes_fault c.args.segment.now ≡ Some (i + 2) = ap (λ o. option_map (λ n. n + 2) o) p in
    rw c.bad_element.ensures (f, refl)

pub loop-i-preserved : goal.loop-i-preserved
loop-i-preserved c =
    let es = c.args.segment.now.elements in
    let vs = map first_value es in
    let i = c.loop-i.i in
    let v = c.value-text.result.now in
    let lt : i < length vs = omega (arith, length-map es first_value, c.loop-i-test.true) in
    let e : get_or vs i [] ≡ v = sym (c.value-text.ensures ∙ ap first_value c.items.ensures.items ∙ sym (get_or-map first_value es i [] [] (omega arith))) in
    elim c.if-not-is_empty.branch [
      | then-not-is_empty+in-Some+in_ok-push-in-Some w ↦
          let z : 0 < length v = grind arith in
          rw (w.codes-is, w.in_ok-push-in-Some.ensures.items)
          (left_more vs i c.loop-i.codes.items c.args.codes.now.items v w.in-Some.code c.loop-i.invariant
          lt e z (sym w.in-Some.ensures))
      | else-not-is_empty w ↦
          let z : length v ≡ 0 = grind arith in
          rw w.codes-is (left_skip vs i c.loop-i.codes.items c.args.codes.now.items v c.loop-i.invariant lt e z)
    ]

pub returns-clause-fine : goal.returns-clause-fine
returns-clause-fine c =
    let es = c.args.segment.now.elements in
    let vs = map first_value es in
    let n : length vs ≡ c.loop-i.i = omega (arith, length-map es first_value) in
    let l = left_end vs c.loop-i.i c.loop-i.codes.items c.args.codes.now.items c.loop-i.invariant n in
    ap (λ o. option_map (λ n. n + 2) o) l.0
