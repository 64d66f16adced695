use Rattle.std.proofs.Common.{None, refl}
use Rattle.lsp_uris.proofs.Putting.{puts}
use Rattle.lsp_trail.specs.Marking.{mark_view}
use Rattle.lsp_trail.specs.declared.step.Step.TheVariants.{Closes}
use Rattle.lsp_trail.proofs.Marking.{steps_on}
use Rattle.lsp_trail.proofs.marks.close.Goals as goal

pub returns : goal.returns
returns c =
    let old = c.args.map.now.entries in
    let new = c.swap_remove.new.self.entries in
    let updates = c.swap_remove.ensures.updates in
    λ p. steps_on c.args.uri.now p Closes None old new
    (puts mark_view None old new c.args.uri.now updates.1 updates.3) refl
