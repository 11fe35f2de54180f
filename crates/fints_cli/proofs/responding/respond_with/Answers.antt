use Rattle.fints_cli.proofs.Faults.{says_next}
use Rattle.fints_cli.proofs.responding.respond_with.Goals as goal

pub returns-then-status-ne5-clause-beside : goal.returns-then-status-ne5-clause-beside
returns-then-status-ne5-clause-beside g c same = record {
  more = c.reasons_of.result.now;
  nothing_more = c.reasons_of.ensures;
  said = says_next _ _ _ _ _ _ _ (c.deliver-status.ensures.quiet same) (rw c.as_bytes.ensures.value at c.write_beside.ensures);
}
