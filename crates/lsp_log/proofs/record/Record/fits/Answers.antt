use Rattle.std.proofs.Common.{◌≡◌, length, rules, w32}
use Rattle.std.specs.Prelude.{string_bytes}
use mir.Val.{SFits}
use Rattle.std.proofs.lemmas.Str.{IsUtf8-string_bytes}
use Rattle.lsp_log.specs.Log.{is_within}
use Rattle.lsp_log.proofs.Fitting.{i32_fits, fits_shown}
use Rattle.lsp_log.proofs.record.Record.fits.Goals as goal

pub returns-then-is_within : goal.returns-then-is_within
returns-then-is_within c =
    let fits : SFits w32 c.in-Snapshot.version = search rules in
    let uri : c.is_within-in-Snapshot.result ≡ is_within 1 8192 (length (string_bytes c.in-Snapshot.uri)) = search rules in
    let text : c.is_within-then-is_within.result ≡ is_within 0 c.args.limits.now.document (length (string_bytes c.in-Snapshot.text)) = search rules in
    rw c.in-Snapshot.is (fits_shown _ _ _ _ _ _ (i32_fits _ fits) (IsUtf8-string_bytes c.in-Snapshot.uri) (IsUtf8-string_bytes c.in-Snapshot.text) uri c.if-is_within.true text)
