use Rattle.std.proofs.Common.{◌∙◌, sym}
use Rattle.std.specs.Str.{bytes_eq}
use Rattle.lsp_docs.proofs.Words.{any-map}
use Rattle.lsp_trail.specs.SessionNotes.{Misused, misused_view}
use Rattle.lsp_trail.proofs.misuses.is_found.Goals as goal

pub returns : goal.returns
returns c =
    c.any_named.ensures
    ∙ sym (any-map (λ (x : Misused). bytes_eq x.method c.args.method.now) misused_view
    c.args.found.now)
