use Rattle.std.specs.Prelude.{length}
use Rattle.std.proofs.Common.{◌++◌, ◌∙◌, ap, append_assoc, string_bytes}
use Rattle.std.proofs.lemmas.Result.{on_ok_weaker}
use Rattle.lsp_facts.specs.Fact.{fact_lines}
use Rattle.lsp_trail.specs.Common.{heard_events, names_view, terms_in, verdict_view}
use Rattle.lsp_notes.specs.AllNotes.{found_along, sound_events}
use Rattle.lsp_notes.specs.Notes.{count_line, notes_by, noticed, uncompared, with_exit, with_server}
use Rattle.lsp_trail.specs.Openings.{unshown}
use Rattle.lsp_notes.proofs.along.NotesAlong.push_end.Goals as goal

pub returns : goal.returns
returns c =
    let terms = terms_in c.args.past in
    let old = string_bytes c.args.lines.now in
    let v = verdict_view c.args.verdict.now in
    let all = c.in_ok-all.all in
    on_ok_weaker c.push_count.result (λ counted heard stands are.
    let events = heard_events heard in
    let found = found_along terms heard in
    let bare = ap names_view c.as_slice.ensures.value
    ∙ c.in_ok-unshown.ensures terms events stands.trail.opened in
    let last = c.in_ok-push_uncompared.ensures
    ∙ ap (λ l. l ++ uncompared v (names_view c.as_slice.result.now)) c.new-last.ensures
    ∙ ap (uncompared v) bare in
    let noted = c.in_ok-all.ensures events (sound_events terms heard) found stands are.misfits are.messages
    ∙ ap (λ e. notes_by v (with_exit e (with_server terms (sound_events terms heard)
    (noticed terms events found))))
    (c.exit.ensures heard heard stands are) in
    counted
    ∙ ap (λ w. w ++ count_line (length all))
    (c.in_ok-push_facts.ensures ∙ ap (λ l. old ++ fact_lines l) last)
    ∙ append_assoc old (fact_lines (uncompared v (unshown terms events)))
    (count_line (length all))
    ∙ ap (λ l. old ++ (fact_lines (uncompared v (unshown terms events))
    ++ count_line (length l))) noted) c.push_count.ensures
