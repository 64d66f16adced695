-- What the laws cite, a list for each of their files.
use Rattle.lsp_log.proofs.OneLog.{one_log, one_place, records_come_first, written_is_read}
use Rattle.lsp_log.proofs.SomeLog.{some_log}

pub ruleset laws = (one_log, one_place, records_come_first, some_log, written_is_read)
