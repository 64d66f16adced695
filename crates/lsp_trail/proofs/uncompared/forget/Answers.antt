use Rattle.std.proofs.Common.{None}
use Rattle.lsp_uris.proofs.Putting.{puts}
use Rattle.lsp_trail.specs.Uncompared.{shown_view}
use Rattle.lsp_trail.proofs.uncompared.forget.Goals as goal

pub returns : goal.returns
returns c =
    let updates = c.swap_remove.ensures.updates in
    puts shown_view None c.args.map.now.entries c.swap_remove.new.self.entries c.args.uri.now
    updates.1 updates.3
