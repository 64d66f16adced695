use Rattle.lsp_command.proofs.run.run_through.Goals as goal

pub returns-clause-ran : goal.returns-clause-ran
returns-clause-ran g c = record {
  gathered = _;
  ended = c.run_task-ended.result;
  ran = c.run_task-ended.ensures.ran;
  kept = c.flush-flushed.ensures.bytes;
  flushed = c.flush-flushed.result;
  failures = c.flush-flushed.ensures.failures;
  emptied = c.flush-flushed.ensures.whole;
  answer = c.handed_on.ensures;
}
