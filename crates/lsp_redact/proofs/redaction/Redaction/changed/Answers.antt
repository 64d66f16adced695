use Rattle.std.proofs.Common.{refl, map, w32}
use Rattle.std.proofs.lemmas.Int.{to_z-of_z}
use Rattle.serde_json.specs.View.{view}
use Rattle.lsp_replay.specs.Common.{changes_view, Text}
use Rattle.lsp_redact.specs.Messages.{changed_data}
use Rattle.lsp_redact.specs.Shown.{shown_change}
use Rattle.lsp_redact.proofs.Showing.{shows_made}
use Rattle.lsp_redact.proofs.redaction.Redaction.changed.Goals as goal

pub returns : goal.returns
returns c = record {
  same = refl;
  shows = shows_made (λ (u : Text). changed_data u c.args.version
      (map (shown_change c.args.self.now.apart) (changes_view c.args.changes.now)))
      (view c.in_ok-params.params)
      (cc (c.in_ok-params.ensures, c.in_ok-own.ensures, to_z-of_z w32 c.args.version c.ranges.version))
      c.in_ok-name.ensures;
}
