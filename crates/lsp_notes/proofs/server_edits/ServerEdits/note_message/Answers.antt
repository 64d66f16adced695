use Rattle.std.proofs.Common.{◌∙◌, ap, refl, subst, sym}
use Rattle.std.proofs.lemmas.Result.{on_ok_weaker}
use Rattle.lsp_replay.proofs.Following.{whose_read}
use Rattle.lsp_replay.proofs.Seeing.{events-push}
use Rattle.lsp_trail.specs.Common.{AreCounts, content, heard_events, Holds, kept_of, place_of}
use Rattle.lsp_trail.specs.Common.{version_named}
use Rattle.lsp_trail.proofs.NamedDocuments.{said_so}
use Rattle.lsp_notes.proofs.ServerNoting.{edits_asked, edits_sent, own_reads}
use Rattle.lsp_trail.proofs.Trails.{is_message, no_content}
use Rattle.lsp_notes.proofs.server_edits.ServerEdits.note_message.Goals as goal

-- no content is no message
pub returns-in_default : goal.returns-in_default
returns-in_default c = λ terms before h trail are named stood kept noted spoken says.
    let own = is_message terms (heard_events before) h.note.event kept says in
    absurd (no_content c.args.raw own.0 c.in_default.not-Content (rw own.1 at noted.0))

pub returns-in_default-spoken : goal.returns-in_default-spoken
returns-in_default-spoken c = λ terms before h trail are named stood kept noted spoken says.
    let own = is_message terms (heard_events before) h.note.event kept says in
    absurd ((rw c.in_default-spoken.is at spoken) own.0 own.1)

pub returns-in-Editor : goal.returns-in-Editor
returns-in-Editor c = on_ok_weaker c.note_edit_request.result
    (λ holds terms before h trail are named stood kept noted spoken says.
    let side = c.in-Content.side in
    let bytes = c.in-Content.content.now in
    let reads = rw c.in-Content.is at noted.0 in
    let at = c.last-place.ensures (heard_events before) h.note.event
    (subst (AreCounts c.args.held.now.counts) (events-push before h) stood.counted)
    (c.who_of.ensures ∙ sym (whose_read (content side bytes) h.note.event reads)) in
    let heard = rw c.in-Some.is at spoken in
    let own = said_so side bytes h.note.event reads heard.1.sent heard.1.is in
    edits_asked terms before h c.args.self.now are kept says c.last-place.result at side heard.0
    bytes c.in-Some.spoken.now reads heard.1 _ c.in-Editor.is
    (holds heard.1.sent.message heard.1.says
    (named ∙ own.1 ∙ ap (λ s. version_named s heard.1.sent.message) c.in-Editor.is))
    refl refl refl refl refl)
    c.note_edit_request.ensures

pub returns-in-Server : goal.returns-in-Server
returns-in-Server c = on_ok_weaker c.note_server.result
    (λ sent terms before h trail are named stood kept noted spoken says.
    let events = heard_events before in
    let event = h.note.event in
    let side = c.in-Content.side in
    let bytes = c.in-Content.content.now in
    let reads = rw c.in-Content.is at noted.0 in
    let at = c.last-place.ensures events event
    (subst (AreCounts c.args.held.now.counts) (events-push before h) stood.counted)
    (c.who_of.ensures ∙ sym (whose_read (content side bytes) event reads)) in
    let heard = rw c.in-Some.is at spoken in
    let message = own_reads terms before h c.args.self.now are kept says c.last-place.result at
    side heard.0 bytes c.in-Some.spoken.now reads heard.1 c.args.self.now in
    let now = c.now_at-now.ensures terms events event stood.by
    (subst (λ es. Holds c.args.held.now.session c.args.held.now.docs (kept_of terms es))
    (events-push before h) stood.holds) trail at in
    edits_sent terms before h c.args.self.now are kept says (place_of events event) refl side
    heard.0 bytes c.in-Some.spoken.now reads heard.1 _ c.in-Server.is
    (sent terms events event heard.1.sent.message now are message heard.1.says
    (named ∙ (said_so side bytes event reads heard.1.sent heard.1.is).1
    ∙ ap (λ s. version_named s heard.1.sent.message) c.in-Server.is)))
    c.note_server.ensures
