use Rattle.std.specs.Prelude.{unwrap_or}
use Rattle.std.proofs.Common.{◌∙◌, ap}
use Rattle.lsp_trail.specs.Common.{sent_in, Utf16}
use Rattle.lsp_notes.specs.ServerEdits.{kept_with}
use Rattle.lsp_notes.proofs.server_edits.now_at.Goals as goal

pub returns : goal.returns
returns c = λ terms before event by holds trail at. record {
  by = by;
  stands = holds.called;
  trail = trail;
  encoding = c.unwrap_or.ensures
      ∙ ap (λ o. unwrap_or o Utf16)
      (c.encoding.ensures (sent_in (kept_with terms before event)) holds.sent);
  place = at;
}
