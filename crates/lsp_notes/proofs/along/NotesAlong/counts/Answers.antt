use Rattle.std.specs.Prelude.{length}
use Rattle.std.proofs.Common.{◌∷◌, [], ◌∙◌, ap, sym}
use Rattle.std.proofs.lemmas.List.{length-map}
use Rattle.lsp_verdict.specs.Heard.{heard_events}
use Rattle.lsp_notes.specs.AllNotes.{one}
use Rattle.lsp_notes.specs.Notes.{exit_notes, misuse_line, name_notes, old_name_notes}
use Rattle.lsp_trail.specs.SessionNotes.{misused_view}
use Rattle.lsp_notes.proofs.NotedSteps.{exit_there, name_there, noted_length, renamed_there}
use Rattle.lsp_notes.proofs.along.NotesAlong.counts.Goals as goal

pub returns : goal.returns
returns c = λ before heard stands are.
    let events = heard_events heard in
    let noted = stands.trail.said in
    let self = c.args.self.now in
    let misuses = c.len.ensures ∙ c.args.past.trail.now.said.notes.misuses.ok.0
    ∙ sym (length-map _ misused_view)
    ∙ ap length noted.notes_are.misuses_are
    ∙ sym (length-map _ misuse_line) in
    let exit = ap one c.is_some.ensures ∙ exit_there c.exit.result
    ∙ ap (λ o. length (exit_notes o)) (c.exit.ensures before heard stands are) in
    let name = ap one c.is_some-2.ensures ∙ name_there c.name_in.result
    ∙ ap (λ o. length (name_notes o)) (c.name_in.ensures events stands) in
    let renamed = ap one c.is_some-3.ensures ∙ renamed_there c.renamed.result
    ∙ ap (λ o. length (old_name_notes o)) (c.renamed.ensures ∙ noted.renames_are.renamed_is) in
    let past_ends = c.len-2.ensures ∙ self.misfits.past_ends.ok.0
    ∙ noted_length _ _ are.misfits.past_ends_are in
    let lengths = c.len-3.ensures ∙ self.misfits.range_lengths.ok.0
    ∙ noted_length _ _ are.misfits.range_lengths_are in
    let refused = c.len-4.ensures ∙ self.messages.refusals.refused.ok.0
    ∙ noted_length _ _ are.messages.refusals.refused_are in
    let spelled = c.len-5.ensures ∙ self.messages.spellings.named.ok.0
    ∙ noted_length _ _ are.messages.spellings.named_are in
    let edits = self.messages.server_edits in
    let late = c.len-6.ensures ∙ edits.late_edits.ok.0
    ∙ noted_length _ _ are.messages.server.late_edits_are in
    let outside = c.len-7.ensures ∙ edits.outside.ok.0
    ∙ noted_length _ _ are.messages.server.outside_are in
    let overlaps = c.len-8.ensures ∙ edits.overlaps.ok.0
    ∙ noted_length _ _ are.messages.server.overlaps_are in
    let unsent = c.len-9.ensures ∙ edits.unsent.ok.0
    ∙ noted_length _ _ are.messages.server.unsent_are in
    λ i. misuses i ∷ exit i ∷ name i ∷ renamed i ∷ past_ends i ∷ lengths i ∷ refused i
    ∷ spelled i ∷ late i ∷ outside i ∷ overlaps i ∷ unsent i ∷ []
