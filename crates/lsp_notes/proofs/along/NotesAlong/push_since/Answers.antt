use Rattle.std.specs.Prelude.{drop, map, option_map}
use Rattle.std.proofs.Common.{◌∷◌, [], ◌++◌, ◌∙◌, ap, sym}
use Rattle.std.proofs.lemmas.List.{drop-map}
use Rattle.std.proofs.lemmas.Result.{on_ok_weaker}
use Rattle.lsp_trail.specs.Common.{heard_events, misused_views, on_view}
use Rattle.lsp_notes.specs.AllNotes.{one}
use Rattle.lsp_notes.specs.DocumentNotes.{document_line, notes_view}
use Rattle.lsp_notes.specs.Notes.{exit_notes, misuse_line, name_notes, old_name_notes}
use Rattle.lsp_trail.specs.SessionNotes.{misused_view}
use Rattle.lsp_notes.proofs.NotedSteps.{all_added, exit_told, name_told, renamed_told}
use Rattle.lsp_notes.proofs.along.NotesAlong.push_since.Goals as goal

pub returns : goal.returns
returns c =
    let old = c.args.notes.now in
    let told = c.args.self.now.told in
    let misfits = c.args.self.now.misfits in
    let a = map misuse_line (misused_views c.beyond-misuses.result.now) in
    let b = exit_notes c.unless-exit.result in
    let n = name_notes (option_map (λ s. s.now) c.unless-name.result) in
    let d = old_name_notes (option_map (λ r. on_view r.now) c.unless-renamed.result) in
    let e = drop told.past_ends (map document_line (notes_view misfits.past_ends.items)) in
    let f = drop told.range_lengths (map document_line (notes_view misfits.range_lengths.items)) in
    let g = drop told.refused (map document_line (notes_view c.args.self.now.messages.refusals.refused.items)) in
    let h = drop told.spelled (map document_line (notes_view c.args.self.now.messages.spellings.named.items)) in
    let edits = c.args.self.now.messages.server_edits in
    let k = drop told.late_edits (map document_line (notes_view edits.late_edits.items)) in
    let l = drop told.outside (map document_line (notes_view edits.outside.items)) in
    let m = drop told.overlaps (map document_line (notes_view edits.overlaps.items)) in
    let u = drop told.unsent (map document_line (notes_view edits.unsent.items)) in
    on_ok_weaker c.push_beyond-8.result (λ sent before heard stands are.
    let events = heard_events heard in
    let noted = stands.trail.said in
    let pushed = sent ∙ ap (λ l. l ++ u) (c.in_ok-push_beyond-7.ensures
    ∙ ap (λ l. l ++ m) (c.in_ok-push_beyond-6.ensures
    ∙ ap (λ x. x ++ l) (c.in_ok-push_beyond-5.ensures
    ∙ ap (λ l. l ++ k) (c.in_ok-push_beyond-4.ensures
    ∙ ap (λ l. l ++ h) (c.in_ok-push_beyond-3.ensures
    ∙ ap (λ l. l ++ g) (c.in_ok-push_beyond-2.ensures
    ∙ ap (λ l. l ++ f) (c.in_ok-push_beyond.ensures
    ∙ ap (λ l. l ++ e) (c.in_ok-push_renamed.ensures
    ∙ ap (λ l. l ++ d) (c.in_ok-push_name.ensures
    ∙ ap (λ l. l ++ n) (c.in_ok-push_exit.ensures
    ∙ ap (λ l. l ++ b) c.in_ok-push_misuses.ensures)))))))))) in
    let misuses = ap (λ xs. map misuse_line (misused_views xs))
    (c.beyond-misuses.ensures ∙ ap (drop told.misuses) c.as_slice.ensures.value)
    ∙ ap (map misuse_line) (sym (drop-map misused_view told.misuses _))
    ∙ sym (drop-map misuse_line told.misuses _)
    ∙ ap (λ l. drop told.misuses (map misuse_line l)) noted.notes_are.misuses_are in
    let exit = ap exit_notes c.unless-exit.ensures ∙ exit_told told.exit c.exit.result
    ∙ ap (λ o. drop (one told.exit) (exit_notes o)) (c.exit.ensures before heard stands are) in
    let name = ap (λ o. name_notes (option_map (λ s. s.now) o)) c.unless-name.ensures
    ∙ name_told told.name c.name_in.result
    ∙ ap (λ o. drop (one told.name) (name_notes o)) (c.name_in.ensures events stands) in
    let renamed = ap (λ o. old_name_notes (option_map (λ r. on_view r.now) o))
    c.unless-renamed.ensures ∙ renamed_told told.renamed c.renamed.result
    ∙ ap (λ o. drop (one told.renamed) (old_name_notes o))
    (c.renamed.ensures ∙ noted.renames_are.renamed_is) in
    pushed
    ∙ all_added old (a ∷ b ∷ n ∷ d ∷ e ∷ f ∷ g ∷ h ∷ k ∷ l ∷ m ∷ u ∷ [])
    ∙ (λ i. old ++ (misuses i ++ (exit i ++ (name i ++ (renamed i
    ++ (drop told.past_ends (map document_line (are.misfits.past_ends_are i))
    ++ (drop told.range_lengths (map document_line (are.misfits.range_lengths_are i))
    ++ (drop told.refused (map document_line (are.messages.refusals.refused_are i))
    ++ (drop told.spelled (map document_line (are.messages.spellings.named_are i))
    ++ (drop told.late_edits (map document_line (are.messages.server.late_edits_are i))
    ++ (drop told.outside (map document_line (are.messages.server.outside_are i))
    ++ (drop told.overlaps (map document_line (are.messages.server.overlaps_are i))
    ++ (drop told.unsent (map document_line (are.messages.server.unsent_are i))
    ++ [])))))))))))))) c.push_beyond-8.ensures
