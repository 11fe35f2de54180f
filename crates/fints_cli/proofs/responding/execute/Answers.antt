use Rattle.fints_cli.proofs.responding.execute.Goals as goal

pub returns-clause-responds : goal.returns-clause-responds
returns-clause-responds g c = (
  c.read_words-asked.result,
  c.read_words-asked.ensures,
  record {
    answered = c.respond.ensures.answered;
    usage = c.respond.ensures.only_usage;
    unread = c.respond.ensures.unread;
    refused = c.respond.ensures.refused;
    memory = c.respond.ensures.memory;
    read = c.respond.ensures.read;
    within = c.respond.ensures.within;
    silent = c.respond.ensures.silent;
    fine = c.respond.ensures.fine;
    failed = c.respond.ensures.failed;
  },
  c.respond.ensures.says,
)
