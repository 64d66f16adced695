use Rattle.std.specs.Prelude.{is_some}
use Rattle.std.proofs.Common.{◌∙◌, ap}
use Rattle.lsp_docs.proofs.Entries.{is_some-mapped}
use Rattle.lsp_docs.specs.Documents.{held}
use Rattle.lsp_trail.proofs.naming.is_open.Goals as goal

pub returns : goal.returns
returns c = λ calls stands.
    c.is_some.ensures
    ∙ ap is_some (c.version_of.ensures calls stands)
    ∙ is_some-mapped _ (held c.args.docs.now.terms c.args.uri.now calls)
