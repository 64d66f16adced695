use Rattle.std.proofs.Common.{◌∙◌, sym, ap}
use Rattle.std.specs.Prelude.{is_some, if◌then◌else◌, false}
use Rattle.std.specs.Str.{chars}
use Rattle.lsp_text.specs.Places.{place_of}
use Rattle.lsp_facts.proofs.AtEdges.{none_inside}
use Rattle.lsp_facts.proofs.edges.is_edge.Goals as goal

pub returns : goal.returns
returns c =
    let t = chars c.args.text.now in
    let enc = c.args.encoding in
    none_inside enc t c.args.position c.char_inside.result c.is_none.result c.is_none.ensures
    c.char_inside.ensures
    ∙ ap (λ b. if b then false else is_some (place_of enc t c.args.position))
    (sym c.if-is_past.false ∙ c.is_past.ensures)
