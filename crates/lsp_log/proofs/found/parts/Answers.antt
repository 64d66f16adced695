use Rattle.std.proofs.Common.{[]}
use Rattle.std.proofs.lemmas.Result.{err_from_is_err_and}
use Rattle.lsp_log.specs.Log.{chunk_head}
use Rattle.lsp_log.specs.Stops.{PartsBreak}
use Rattle.lsp_log.proofs.Parts.{part_stops}
use Rattle.lsp_log.proofs.found.parts.Goals as goal

pub returns-in_err-bytes-in-Bytes-clause-answer : goal.returns-in_err-bytes-in-Bytes-clause-answer
returns-in_err-bytes-in-Bytes-clause-answer g c =
    let p = err_from_is_err_and c.from_residual.result c.from_residual.ensures.1 in
    rw (p.1, p.2, c.in-Bytes.is) (part_stops _ _ _ _ (PartsBreak (chunk_head c.in-Bytes.side c.in-Bytes.len)) c.in-Bytes.len [] (λ _ h. h) (λ _ h. h) _ c.in_err-bytes-in-Bytes.ensures.answer)
