use Rattle.std.specs.Prelude.{map, option_map}
use Rattle.std.proofs.Common.{List, ◌++◌, ap, ◌∙◌}
use Rattle.lsp_trail.specs.Common.{misused_views, names_view, on_view, terms_in, verdict_view}
use Rattle.lsp_notes.specs.DocumentNotes.{document_line, notes_view}
use Rattle.lsp_notes.specs.declared.document_notes.DocumentNote as code
use Rattle.lsp_facts.specs.Fact.{Fact}
use Rattle.lsp_notes.specs.Notes.{exit_notes, misuse_line, name_notes, old_name_notes, uncompared}
use Rattle.lsp_notes.proofs.notes.notes_of.Goals as goal

pub returns : goal.returns
returns c = λ before served found stands are noted_are.
    let terms = terms_in c.args.past in
    let noted = stands.trail.said in
    let name = c.name_in.ensures before stands in
    let calls = ap misused_views c.as_slice.ensures.value ∙ noted.notes_are.misuses_are in
    let renamed = c.renamed.ensures ∙ noted.renames_are.renamed_is in
    let unshown = ap names_view c.as_slice-2.ensures.value
    ∙ c.in_ok-unshown.ensures terms before stands.trail.opened in
    let lines : List code.DocumentNote → List Fact =
    λ held. map document_line (notes_view held) in
    let pushed = c.in_ok-push_lines-8.ensures
    ∙ ap (λ l. l ++ lines c.as_slice-10.result.now) (c.in_ok-push_lines-7.ensures
    ∙ ap (λ l. l ++ lines c.as_slice-9.result.now) (c.in_ok-push_lines-6.ensures
    ∙ ap (λ l. l ++ lines c.as_slice-8.result.now) (c.in_ok-push_lines-5.ensures
    ∙ ap (λ l. l ++ lines c.as_slice-7.result.now) (c.in_ok-push_lines-4.ensures
    ∙ ap (λ l. l ++ lines c.as_slice-6.result.now) (c.in_ok-push_lines-3.ensures
    ∙ ap (λ l. l ++ lines c.as_slice-5.result.now) (c.in_ok-push_lines-2.ensures
    ∙ ap (λ l. l ++ lines c.as_slice-4.result.now) (c.in_ok-push_lines.ensures
    ∙ ap (λ l. l ++ lines c.as_slice-3.result.now) (c.in_ok-push_uncompared.ensures
    ∙ ap (λ l. l ++ uncompared (verdict_view c.args.verdict.now) (names_view
    c.as_slice-2.result.now)) (c.in_ok-push_renamed.ensures
    ∙ ap (λ l. l ++ old_name_notes (option_map (λ r. on_view r.now) c.renamed.result))
    (c.in_ok-push_name.ensures
    ∙ ap (λ l. l ++ name_notes (option_map (λ s. s.now) c.name_in.result))
    (c.in_ok-push_exit.ensures
    ∙ ap (λ l. l ++ exit_notes c.args.exit)
    (c.in_ok-push_misuses.ensures
    ∙ ap (λ l. l ++ map misuse_line (misused_views c.as_slice.result.now))
    c.new-notes.ensures)))))))))))) in
    let past_ends = ap notes_view c.as_slice-3.ensures.value ∙ are.past_ends_are in
    let lengths = ap notes_view c.as_slice-4.ensures.value ∙ are.range_lengths_are in
    let refused = ap notes_view c.as_slice-5.ensures.value ∙ noted_are.refusals.refused_are in
    let spelled = ap notes_view c.as_slice-6.ensures.value ∙ noted_are.spellings.named_are in
    let late = ap notes_view c.as_slice-7.ensures.value ∙ noted_are.server.late_edits_are in
    let outside = ap notes_view c.as_slice-8.ensures.value ∙ noted_are.server.outside_are in
    let overlaps = ap notes_view c.as_slice-9.ensures.value ∙ noted_are.server.overlaps_are in
    let unsent = ap notes_view c.as_slice-10.ensures.value ∙ noted_are.server.unsent_are in
    pushed
    ∙ (λ i. map misuse_line (calls i) ++ exit_notes c.args.exit ++ name_notes (name i)
    ++ old_name_notes (renamed i)
    ++ uncompared (verdict_view c.args.verdict.now) (unshown i)
    ++ map document_line (past_ends i) ++ map document_line (lengths i)
    ++ map document_line (refused i) ++ map document_line (spelled i)
    ++ map document_line (late i) ++ map document_line (outside i)
    ++ map document_line (overlaps i) ++ map document_line (unsent i))
