use Rattle.std.proofs.lemmas.Bool.{both_ways}
use Rattle.fints_script_cases.proofs.CaseReads.{begins, grown_by, no_line, not_next}
use Rattle.fints_script_cases.proofs.case_reading.CaseSoFarLineTaker.take.Goals as goal

pub returns-in_default-clause-refused : goal.returns-in_default-clause-refused
returns-in_default-clause-refused c _ =
    no_line c.args.self.now.case.values c.args.self.now.case.answers.items c.args.text.now c.requires.ready.begun
    (rw c.in_default.is at c.in_ok-line.ensures)

pub returns-then-not-is_next-clause-refused : goal.returns-then-not-is_next-clause-refused
returns-then-not-is_next-clause-refused c _ =
    let read = rw c.in-Some.is at c.in_ok-line.ensures in
    not_next c.args.self.now.case.values c.args.self.now.case.answers.items c.args.text.now c.in-Some.line
    c.requires.ready.begun read.0 read.1
    (λ next. both_ways _ c.if-not-is_next.true (c.is_next.ensures.1 next))

pub returns-clause-ready : goal.returns-clause-ready
returns-clause-ready c _ =
    let read = rw c.in-Some.is at c.in_ok-line.ensures in
    record {
      begun =
          grown_by c.args.self.now.case.values c.args.self.now.case.answers.items c.in-Some.line c.args.text.now
          c.add.new.taken.case.values c.add.new.taken.case.answers.items c.requires.ready.begun read.0
          (c.is_next.ensures.0 c.if-not-is_next.false) read.1 c.requires.short c.in_ok-add.ensures.values
          c.in_ok-add.ensures.answers;
      names = c.in_ok-add.ensures.names;
    }

pub returns-clause-begins : goal.returns-clause-begins
returns-clause-begins c told =
    begins c.add.new.taken.case.values c.add.new.taken.case.answers.items (returns-clause-ready c told).begun
