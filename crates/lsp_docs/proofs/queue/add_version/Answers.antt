use Rattle.std.proofs.Common.{◌∙◌, ap, sym, w32, filter}
use Rattle.std.proofs.lemmas.Int.{to_z-of_z}
use mir.Val.{SFits}
use Rattle.lsp_docs.specs.Documents.{is_at}
use Rattle.lsp_docs.specs.Stored.{text_of, versions_in}
use Rattle.lsp_docs.proofs.Due.{ordered-new}
use Rattle.lsp_docs.proofs.queue.add_version.Goals as goal

pub returns-clause-ok : goal.returns-clause-ok
returns-clause-ok c =
    let fits : SFits w32 c.args.version = c.ranges.version in
    let put = simp to_z-of_z at c.in_ok-insert.ensures.entries in
    λ m. ordered-new c.args.version (text_of c.args.text) c.args.texts.now.entries
    c.in_ok-first.first c.requires.ordered c.requires.new c.in_ok-first.ensures m
    ∙ ap (λ es. filter (is_at m) (versions_in es)) (sym put)
