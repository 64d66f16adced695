use Rattle.std.proofs.Common.{◌∙◌, ap}
use Rattle.std.specs.Prelude.{unwrap_or}
use Rattle.lsp_types.specs.declared.position.Encoding.TheVariants.{Utf16}
use Rattle.lsp_types.specs.declared.change.SyncKind.TheVariants.{Nothing}
use Rattle.lsp_verdict.specs.Event.{sent_in}
use Rattle.lsp_replay.proofs.events.Events.as_read.Goals as goal

pub returns-clause-read : goal.returns-clause-read
returns-clause-read g c = λ events event stands reads speaks. record {
  reads = reads;
  spoken = speaks;
  encoding = c.unwrap_or.ensures
      ∙ ap (λ o. unwrap_or o Utf16) (c.encoding.ensures (sent_in events) stands);
  kind = c.unwrap_or-2.ensures
      ∙ ap (λ o. unwrap_or o Nothing) (c.sync_kind.ensures (sent_in events) stands);
}
