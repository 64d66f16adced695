use Rattle.std.proofs.Common.{◌∙◌, ap, refl, subst, sym}
use Rattle.std.proofs.lemmas.Result.{on_ok_weaker}
use Rattle.lsp_replay.proofs.Following.{whose_read}
use Rattle.lsp_replay.proofs.Seeing.{events-push}
use Rattle.lsp_trail.specs.Common.{AreCounts, content, heard_events, version_named}
use Rattle.lsp_trail.proofs.NamedDocuments.{said_so}
use Rattle.lsp_notes.proofs.Refusing.{answered_more, asked_more}
use Rattle.lsp_trail.proofs.Trails.{is_message, no_content}
use Rattle.lsp_notes.proofs.refusals.Refusals.note_message.Goals as goal

-- no content is no message
pub returns-in_default : goal.returns-in_default
returns-in_default c = λ terms before h trail are named stood kept noted spoken says.
    let own = is_message terms (heard_events before) h.note.event kept says in
    absurd (no_content c.args.raw own.0 c.in_default.not-Content (rw own.1 at noted.0))

pub returns-in_default-spoken : goal.returns-in_default-spoken
returns-in_default-spoken c = λ terms before h trail are named stood kept noted spoken says.
    let own = is_message terms (heard_events before) h.note.event kept says in
    absurd ((rw c.in_default-spoken.is at spoken) own.0 own.1)

pub returns-in-Editor : goal.returns-in-Editor
returns-in-Editor c = on_ok_weaker c.note_request.result
    (λ holds terms before h trail are named stood kept noted spoken says.
    let side = c.in-Content.side in
    let bytes = c.in-Content.content.now in
    let reads = rw c.in-Content.is at noted.0 in
    let at = c.last-place.ensures (heard_events before) h.note.event
    (subst (AreCounts c.args.held.now.counts) (events-push before h) stood.counted)
    (c.who_of.ensures ∙ sym (whose_read (content side bytes) h.note.event reads)) in
    let heard = rw c.in-Some.is at spoken in
    let own = said_so side bytes h.note.event reads heard.1.sent heard.1.is in
    asked_more terms before h c.args.self.now are kept c.last-place.result at side heard.0
    bytes c.in-Some.spoken.now reads heard.1 _ c.in-Editor.is
    (holds heard.1.sent.message heard.1.says
    (named ∙ own.1 ∙ ap (λ s. version_named s heard.1.sent.message) c.in-Editor.is)) refl)
    c.note_request.ensures

pub returns-in-Server : goal.returns-in-Server
returns-in-Server c = on_ok_weaker c.note_answer.result
    (λ refused terms before h trail are named stood kept noted spoken says.
    let side = c.in-Content.side in
    let bytes = c.in-Content.content.now in
    let reads = rw c.in-Content.is at noted.0 in
    let at = c.last-place.ensures (heard_events before) h.note.event
    (subst (AreCounts c.args.held.now.counts) (events-push before h) stood.counted)
    (c.who_of.ensures ∙ sym (whose_read (content side bytes) h.note.event reads)) in
    let heard = rw c.in-Some.is at spoken in
    answered_more terms before h c.args.self.now are kept c.last-place.result at side heard.0
    bytes c.in-Some.spoken.now reads heard.1 _ c.in-Server.is refl
    (refused terms (heard_events before) trail are.asked_are)) c.note_answer.ensures
