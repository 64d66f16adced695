use Rattle.std.proofs.Common.{ap, ◌∙◌}
use Rattle.lsp_lined.specs.Ends.{places_behind}
use Rattle.lsp_lined.specs.declared.block.BlockText.{BlockText}
use Rattle.lsp_lined.proofs.Rests.{count_up_to}
use Rattle.lsp_lined.proofs.block.BlockPart.ends_before.Goals as goal

pub returns : goal.returns
returns c =
    let places = c.deref.ensures.value
    ∙ ap (λ (x : BlockText). x.places.items) c.deref-held.ensures ∙ c.self.invariant.places
    ∙ ap (places_behind 0) c.self.view_is in
    count_up_to c.args.self.now c.deref.result.now c.args.offset c.places_up_to.result places
    c.requires c.places_up_to.ensures
