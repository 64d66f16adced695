use Rattle.std.proofs.Common.{None, ap, ◌∙◌}
use Rattle.std.specs.Prelude.{is_some}
use Rattle.lsp_uris.proofs.Putting.{some_put, puts}
use Rattle.lsp_uris.proofs.uris.forget_uri.Goals as goal

pub returns : goal.returns
returns c =
    let uri = c.args.uri.now in
    let old = c.args.uris.now.entries in
    let new = c.swap_remove.new.self.entries in
    let updates = c.swap_remove.ensures.updates in
    λ u. ap is_some (puts (λ x. x) None old new uri updates.1 updates.3 u)
    ∙ some_put u uri None old
