use Rattle.std.proofs.Common.{◌∙◌, List, string_bytes, sym, ℕ}
use Rattle.std.specs.Str.{bytes_eq}
use Rattle.lsp_docs.proofs.Words.{any-map}
use Rattle.lsp_trail.proofs.openings.has_name.Goals as goal

pub returns : goal.returns
returns c =
    c.any_named.ensures
    ∙ sym (any-map (λ (n : List ℕ). bytes_eq n c.args.uri.now) string_bytes c.args.names.now)
