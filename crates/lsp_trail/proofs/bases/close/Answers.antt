use Rattle.std.proofs.Common.{◌≡◌, None, refl}
use Rattle.lsp_uris.proofs.Putting.{puts}
use Rattle.lsp_trail.proofs.BasesHeld.{put_one}
use Rattle.lsp_trail.proofs.bases.close.Goals as goal

pub returns : goal.returns
returns c =
    let old = c.args.map.now.entries in
    let new = c.swap_remove.new.self.entries in
    let uri = c.args.uri.now in
    let updates = c.swap_remove.ensures.updates in
    put_one uri (λ was now. now ≡ None) None old new
    (puts (λ b. b) None old new uri updates.1 updates.3) refl
