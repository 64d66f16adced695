use Rattle.std.proofs.Common.{map, refl}
use Rattle.lsp_lined.proofs.PartSteps.{found_before}
use Rattle.lsp_lined.proofs.part.find_before.Goals as goal

pub returns : goal.returns
returns g c =
    found_before (map g.T.Part.text c.args.parts.now) c.args.place c.saturating_sub-before.result c.find-found.result _ c.saturating_sub-before.ensures c.requires.within c.find-found.ensures refl
