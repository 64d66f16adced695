use Rattle.std.proofs.Common.{Some, ap, ◌∙◌}
use Rattle.std.specs.Prelude.{is_some}
use Rattle.lsp_uris.proofs.Putting.{some_put, puts-key}
use Rattle.lsp_uris.proofs.uris.add_uri.Goals as goal

pub returns : goal.returns
returns c =
    let uri = c.args.uri.now in
    let old = c.args.uris.now.entries in
    let new = c.insert.new.self.entries in
    let updates = c.in_ok-insert.ensures.updates in
    λ u. ap is_some (puts-key (λ x. x) (Some tt) old new c.in_ok-key.key uri
    c.in_ok-key.ensures.ok updates.1 updates.3 u) ∙ some_put u uri (Some tt) old
