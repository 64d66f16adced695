use Rattle.std.proofs.Common.{refl}
use Rattle.lsp_lined.proofs.SameEnds.{ends_patch}
use Rattle.lsp_lined.proofs.lined.window.patch_between.Goals as goal

pub returns : goal.returns
returns c =
    ends_patch c.args.tree.now c.args.text.now c.split_at.result.0.now c.args.from c.args.to
    c.args.front c.args.back _ c.requires.span c.utf8.text c.requires.same refl refl
    c.split_at.ensures.front c.split_at-2.ensures.back
