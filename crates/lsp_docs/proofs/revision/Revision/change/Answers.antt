use Rattle.std.proofs.Common.{sym, ap, ◌∙◌}
use Rattle.lsp_text.specs.Changes.{edit_of}
use Rattle.lsp_text.specs.Findings.{noted, found_of}
use Rattle.lsp_text.proofs.FoundChanges.{found_one}
use Rattle.lsp_docs.proofs.revision.Revision.change.Goals as goal

pub returns-clause-found : goal.returns-clause-found
returns-clause-found g c =
    let t = g.S.TextStore.content c.args.self.now.store in
    let edit = c.args.edit.now in
    c.in_ok-change_noting.ensures.found
    ∙ ap (λ x. noted x (found_of c.args.encoding t edit.span edit.range_length)) c.requires
    ∙ sym (found_one c.args.limit c.args.encoding t (edit_of edit))
