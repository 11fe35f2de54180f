use Rattle.std.proofs.Common.{[], ◌∙◌, sym, subst, refl, arith, inl, inr}
use Rattle.std.specs.Prelude.{string_bytes}
use Rattle.fints_cli_files.specs.Streams.{GetsPrefix}
use Rattle.fints_cli.proofs.CutAnswers.{cut_answer}
use Rattle.fints_cli.proofs.Faults.{failure_above, fails_with, first_under}
use Rattle.fints_cli.proofs.Writes.{got_nothing}
use Rattle.fints_cli.specs.Responses.{GetsOrFails}
use Rattle.fints_cli.proofs.responding.respond.Goals as goal

pub returns-in-Help-clause-failed : goal.returns-in-Help-clause-failed
returns-in-Help-clause-failed g c five =
    inr (
      rw c.in-Help.is (
        0,
        string_bytes c.in-Help.text,
        (refl, refl),
        subst (GetsPrefix _ _) c.as_bytes.ensures.value (c.deliver.ensures.cut five),
      ),
      c.deliver.ensures.failed five,
    )

pub returns-in-Ok-clause-failed : goal.returns-in-Ok-clause-failed
returns-in-Ok-clause-failed g c five =
    inr (
      cut_answer c.args.asked.now c.in-Run.request _ c.in-Ok.answered.reply.status
          c.in-Ok.answered.reply.text.items _ _ c.in-Run.is c.in-Ok.ensures.answers
          c.in-Ok.ensures.within (c.respond_with.ensures.cut five),
      c.respond_with.ensures.failed five,
    )

pub returns-in-Help-clause-says : goal.returns-in-Help-clause-says
returns-in-Help-clause-says g c =
    rw c.in-Help.is
    (record {
      beside = λ few. elim c.deliver.ensures.statuses [
        | inl zero ↦ ([], refl, record { more = []; nothing_more = λ _. refl; said = c.deliver.ensures.quiet zero })
        | inr five ↦ absurd (omega (arith, few, five))
      ];
      usage = tt;
      line = λ two. elim c.deliver.ensures.statuses [
        | inl zero ↦ absurd (omega (arith, two, zero))
        | inr five ↦ inr (inr (inl (five, c.deliver.ensures.line five)))
      ];
      memory = λ four. elim c.deliver.ensures.statuses [ inl zero ↦ absurd (omega (arith, four, zero)) | inr five ↦ absurd (omega (arith, four, five)) ];
    })

pub returns-in-Usage-clause-says : goal.returns-in-Usage-clause-says
returns-in-Usage-clause-says g c =
    rw c.in-Usage.is
    (record {
      beside = λ few. absurd (omega (arith, few));
      usage = subst (GetsOrFails _ _ _ _) c.as_bytes-in-Usage.ensures.value c.write_text.ensures;
      line = λ two. inl tt;
      memory = λ four. absurd (omega (arith, four));
    })

pub returns-in-NoMemory-clause-says : goal.returns-in-NoMemory-clause-says
returns-in-NoMemory-clause-says g c =
    rw c.in-NoMemory.is
    (record {
      beside = λ few. absurd (omega (arith, few, c.write_memory.ensures.status));
      usage = tt;
      line = λ two. inr (inl tt);
      memory = λ four. c.write_memory.ensures.line;
    })

pub returns-in-Ok-clause-says : goal.returns-in-Ok-clause-says
returns-in-Ok-clause-says g c =
    rw c.in-Run.is
    (record {
      beside = λ few. elim c.respond_with.ensures.statuses [
        | inl same ↦ (_, c.in-Ok.ensures.note, first_under _ _ _ _ _ _ _ c.in-Ok.ensures.no_reasons (c.respond_with.ensures.beside same))
        | inr five ↦ absurd (omega (arith, few, five))
      ];
      usage = tt;
      line = λ two. elim c.respond_with.ensures.statuses [
        | inl same ↦ absurd (omega (arith, two, same, c.in-Ok.ensures.status))
        | inr five ↦ inr (inr (inl (five, c.respond_with.ensures.line five)))
      ];
      memory = λ four. elim c.respond_with.ensures.statuses [
        | inl same ↦ absurd (omega (arith, four, same, c.in-Ok.ensures.status))
        | inr five ↦ absurd (omega (arith, four, five))
      ];
    })

pub returns-in-Err-clause-says : goal.returns-in-Err-clause-says
returns-in-Err-clause-says g c =
    rw c.in-Run.is
    (record {
      beside = λ few. absurd (omega (arith, few, c.write_refusal.ensures.status, failure_above c.in-Err.refusal.failure));
      usage = tt;
      line = λ two. inr (inr (inr (
        c.in-Err.refusal.failure,
        (sym c.write_refusal.ensures.status, c.in-Err.ensures.refused, c.in-Err.ensures.reason),
        first_under _ _ _ _ _ _ _ c.in-Err.ensures.unasked c.write_refusal.ensures.line,
      )));
      memory = c.write_refusal.ensures.memory;
    })

pub returns-in-Err-clause-only_usage : goal.returns-in-Err-clause-only_usage
returns-in-Err-clause-only_usage g c two =
    inr (fails_with _ _ _ _ _ 2 c.in-Err.refusal.failure c.in-Run.is (sym c.write_refusal.ensures.status ∙ two)
    c.in-Err.ensures.refused c.in-Err.ensures.reason)

pub returns-in-Err-clause-refused : goal.returns-in-Err-clause-refused
returns-in-Err-clause-refused g c three =
    fails_with _ _ _ _ _ 3 c.in-Err.refusal.failure c.in-Run.is (sym c.write_refusal.ensures.status ∙ three)
    c.in-Err.ensures.refused c.in-Err.ensures.reason

pub returns-in-Err-clause-memory : goal.returns-in-Err-clause-memory
returns-in-Err-clause-memory g c four =
    inr (fails_with _ _ _ _ _ 4 c.in-Err.refusal.failure c.in-Run.is (sym c.write_refusal.ensures.status ∙ four)
    c.in-Err.ensures.refused c.in-Err.ensures.reason)

pub returns-in-Err-clause-failed : goal.returns-in-Err-clause-failed
returns-in-Err-clause-failed g c five =
    inl (
      fails_with _ _ _ _ _ 5 c.in-Err.refusal.failure c.in-Run.is (sym c.write_refusal.ensures.status ∙ five)
          c.in-Err.ensures.refused c.in-Err.ensures.reason,
      got_nothing _,
    )
