use Rattle.std.proofs.Common.{codes, option_and_then}
use Rattle.serde_json.specs.Find.{get_member}
use Rattle.lsp_rpc.specs.Shape.{unless_null}
use Rattle.lsp_outline.proofs.outline.put_otherwise.Goals as goal

pub returns-in-Some : goal.returns-in-Some
returns-in-Some c = λ ms read.
    c.in-Some.ensures.means (option_and_then unless_null (get_member (codes "params") ms))
