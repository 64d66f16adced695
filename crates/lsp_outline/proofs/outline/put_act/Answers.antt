use Rattle.std.proofs.Common.{codes}
use Rattle.std.proofs.lemmas.Option.{IfSome_then}
use Rattle.serde_json.specs.Find.{get_member}
use Rattle.lsp_outline.proofs.outline.put_act.Goals as goal

pub returns-in-Some : goal.returns-in-Some
returns-in-Some c = λ ms read tells. c.in-Some.ensures (get_member (codes "params") ms) tells

pub returns-in-None : goal.returns-in-None
returns-in-None c =
    IfSome_then c.put_otherwise.result c.put_otherwise.ensures (λ act means ms read tells.
    means ms read)
