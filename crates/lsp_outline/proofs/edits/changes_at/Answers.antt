use Rattle.std.proofs.Common.{◌≡◌, get_or, arith}
use Rattle.std.proofs.lemmas.Option.{IfSome_then}
use Rattle.lsp_walk.proofs.Walking.{array_value}
use Rattle.lsp_outline.proofs.edits.changes_at.Goals as goal

pub returns : goal.returns
returns c =
    let d = c.args.text.now in
    let first : get_or d c.args.from 0 ≡ 91 = rw (← c.as_bytes.ensures.value) (grind arith) in
    IfSome_then c.rest_of_changes.result c.rest_of_changes.ensures
    (λ r h. (h.0, array_value c.args.depth d c.args.from r.1 h.0 first (omega arith) h.1, h.2))
