use Rattle.lsp_docs.specs.Taken.{call_view}
use Rattle.std.proofs.Common.{◌∙◌, sym}
use Rattle.lsp_survey.proofs.Noting.{notes_stay, kept_leaves}
use Rattle.lsp_survey.proofs.notes.documents.note_kept.Goals as goal

pub returns-else-renews : goal.returns-else-renews
returns-else-renews c =
    let call = call_view c.in-Some.call in
    rw c.in-Some.is (notes_stay call c.args.notes.now.map.entries
    (kept_leaves call (sym c.renews.ensures ∙ c.if-renews.false)))
