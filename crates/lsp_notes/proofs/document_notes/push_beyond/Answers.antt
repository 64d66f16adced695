use Rattle.std.specs.Prelude.{drop, map}
use Rattle.std.proofs.Common.{◌++◌, ◌∙◌, ap, sym}
use Rattle.std.proofs.lemmas.List.{drop-map}
use Rattle.std.proofs.lemmas.Result.{on_ok_weaker}
use Rattle.lsp_notes.specs.DocumentNotes.{document_line, note_view, notes_view}
use Rattle.lsp_notes.proofs.document_notes.push_beyond.Goals as goal

pub returns : goal.returns
returns c = on_ok_weaker c.push_lines.result (λ pushed.
    pushed
    ∙ ap (λ xs. c.args.facts.now ++ map document_line (notes_view xs))
    (c.beyond.ensures ∙ ap (drop c.args.count) c.as_slice.ensures.value)
    ∙ ap (λ l. c.args.facts.now ++ l)
    (ap (map document_line) (sym (drop-map note_view c.args.count _))
    ∙ sym (drop-map document_line c.args.count _))) c.push_lines.ensures
