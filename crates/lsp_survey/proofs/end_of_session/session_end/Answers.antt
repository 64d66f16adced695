use Rattle.std.specs.Prelude.{map}
use Rattle.std.proofs.Common.{◌∙◌, ap, sym}
use Rattle.lsp_replay.proofs.AllHeard.{few_events}
use Rattle.lsp_survey.specs.SessionEnds.{ends_held}
use Rattle.lsp_survey.proofs.SessionEnds.{ends_given, sound_end}
use Rattle.lsp_replay.specs.Common.{by_itself, heard_events, offence_view}
use Rattle.lsp_survey.proofs.end_of_session.session_end.Goals as goal

pub returns-clause-listed : goal.returns-clause-listed
returns-clause-listed c = λ terms heard stood few.
    let events = heard_events heard in
    let small = few_events heard few in
    ends_given terms heard _ _ _ stood few c.args.completeness c.args.log.now _ _ _ _ _ _ _
    c.ends_inside-editor.ensures c.ends_inside-server.ensures
    (c.first_end-first.ensures _ stood.holds) c.second_end.ensures
    (ap (map offence_view) c.new-listed.ensures.items)
    (c.in_ok-list.ensures events stood.counted small)
    (c.in_ok-list-2.ensures events stood.counted small)
    ∙ ap (λ e. map by_itself (ends_held c.args.completeness terms heard c.args.log.now e))
    (sym (sound_end c.args.end c.in_default.not-Bad))
