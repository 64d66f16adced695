use Rattle.std.specs.Prelude.{length}
use Rattle.std.proofs.Common.{◌++◌, ap, ◌∙◌, append_assoc, string_bytes}
use Rattle.std.proofs.lemmas.Result.{on_ok_weaker}
use Rattle.lsp_facts.specs.Fact.{fact_lines}
use Rattle.lsp_trail.specs.Common.{terms_in, verdict_view}
use Rattle.lsp_notes.specs.Notes.{count_line, note_lines, notes_by, noticed, with_exit, with_server}
use Rattle.lsp_notes.proofs.notes.push_notes.Goals as goal

pub returns : goal.returns
returns c =
    let terms = terms_in c.args.past in
    let notes = c.in_ok-notes.notes in
    on_ok_weaker c.push_count.result
    (λ counted before found stands are messages.
    counted
    ∙ ap (λ w. w ++ count_line (length notes)) c.in_ok-push_facts.ensures
    ∙ append_assoc (string_bytes c.args.lines.now) (fact_lines notes) (count_line (length notes))
    ∙ ap (λ l. string_bytes c.args.lines.now ++ note_lines l)
    (c.in_ok-notes.ensures before before found stands are messages)
    ∙ ap (λ e. string_bytes c.args.lines.now ++ note_lines (notes_by (verdict_view
    c.args.verdict.now) (with_exit e (with_server terms before (noticed terms before found)))))
    stands.trail.said.notes_are.abrupt_is) c.push_count.ensures
