use Rattle.lsp_lined.proofs.Patches.{begins_all}
use Rattle.lsp_lined.proofs.walk.after_common.Goals as goal

pub returns-in_default : goal.returns-in_default
returns-in_default c =
    begins_all c.args.other.now c.args.text.now c.utf8.other c.utf8.text c.in_default.ensures
