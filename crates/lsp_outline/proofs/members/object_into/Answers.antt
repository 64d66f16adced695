use Rattle.std.proofs.Common.{◌≡◌, get_or, arith}
use Rattle.std.proofs.lemmas.Option.{IfSome_then}
use Rattle.lsp_walk.proofs.Walking.{object_value}
use Rattle.lsp_outline.proofs.members.object_into.Goals as goal

pub returns : goal.returns
returns g c =
    let d = c.args.text.now in
    let first : get_or d c.args.from 0 ≡ 123 = rw (← c.as_bytes.ensures.value) (grind arith) in
    IfSome_then c.rest_of_object.result c.rest_of_object.ensures
    (λ end h. (h.0, object_value c.args.depth d c.args.from end h.0 first (omega arith) h.1, h.2))
