use Rattle.std.proofs.Common.{w32}
use Rattle.std.proofs.lemmas.Int.{to_z-of_z}
use Rattle.std.proofs.lemmas.Result.{err_from_is_err_and}
use Rattle.std.proofs.lemmas.Str.{IsUtf8-string_bytes}
use Rattle.lsp_log.proofs.Parts.{uri_stops, text_stops, snapshot_found}
use Rattle.lsp_log.proofs.found.snapshot.Goals as goal

pub returns-in_err-uri-clause-answer : goal.returns-in_err-uri-clause-answer
returns-in_err-uri-clause-answer g c =
    let p = err_from_is_err_and c.from_residual.result c.from_residual.ensures.1 in
    rw (p.1, p.2) (c.in_err-uri.ensures.answer c.args.version)

pub returns-in_err-uri-2-clause-answer : goal.returns-in_err-uri-2-clause-answer
returns-in_err-uri-2-clause-answer g c =
    let p = err_from_is_err_and c.from_residual-in_err-uri-2.result c.from_residual-in_err-uri-2.ensures.1 in
    rw (p.1, p.2) (uri_stops _ _ _ _ _ _ _ _ _ _ c.in_ok-uri.ensures.answer c.in_ok-uri.ensures.short c.in_err-uri-2.ensures)

pub returns-in_err-text-clause-answer : goal.returns-in_err-text-clause-answer
returns-in_err-text-clause-answer g c =
    let p = err_from_is_err_and c.from_residual-in_err-text.result c.from_residual-in_err-text.ensures.1 in
    rw (p.1, p.2) (text_stops _ _ _ _ _ _ _ _ _ _ c.in_ok-uri.ensures.answer c.in_ok-uri.ensures.short c.in_err-text.ensures)

pub returns-clause-answer : goal.returns-clause-answer
returns-clause-answer g c = snapshot_found _ _ _ _ _ _ _ _ _ _ _ _ c.in_ok-uri.ensures.answer c.in_ok-uri-2.ensures c.in_ok-text.ensures (IsUtf8-string_bytes c.in_ok-uri-2.uri) (IsUtf8-string_bytes c.in_ok-text.text) (to_z-of_z w32 c.args.version c.ranges.version)
