use Rattle.std.proofs.Common.{◌∙◌, ◌++◌, ◌∷◌, [], refl, subst, sym}
use Rattle.lsp_replay.proofs.Following.{whose_read}
use Rattle.lsp_replay.proofs.Seeing.{events-push}
use Rattle.lsp_replay.specs.Common.{AreCounts, content, heard_events, kept_of, sent_in}
use Rattle.lsp_trail.proofs.Trails.{is_message, no_content, on_ok_two, trail_said}
use Rattle.lsp_trail.proofs.trail.Trail.keep_message.Goals as goal

-- no content is no message
pub returns-in_default : goal.returns-in_default
returns-in_default c = λ terms before h is stood rule noted spoken says.
    let own = is_message terms (heard_events before) h.note.event rule says in
    absurd (no_content c.args.raw own.0 c.in_default.not-Content (rw own.1 at noted.0))

pub returns-in_default-spoken : goal.returns-in_default-spoken
returns-in_default-spoken c = λ terms before h is stood rule noted spoken says.
    let own = is_message terms (heard_events before) h.note.event rule says in
    absurd ((rw c.in_default-spoken.is at spoken) own.0 own.1)

pub returns : goal.returns
returns c = on_ok_two c.keep.result (λ told renamed terms before h is stood rule noted spoken says.
    let side = c.in-Content.side in
    let bytes = c.in-Content.content.now in
    let reads = rw c.in-Content.is at noted.0 in
    let place = c.last-place.ensures (heard_events before) h.note.event
    (subst (AreCounts c.args.held.now.counts) (events-push before h) stood.counted)
    (c.who_of.ensures ∙ sym (whose_read (content side bytes) h.note.event reads)) in
    let sents = sent_in (kept_of terms (heard_events (before ++ h ∷ []))) in
    let phase = c.phase-phase.ensures sents stood.holds.sent in
    let done = c.is_done-done.ensures sents stood.holds.sent in
    let heard = rw c.in-Some.is at spoken in
    trail_said terms before h _ is _ rule _ place side bytes heard.0 c.in-Some.spoken.now reads
    heard.1 says refl refl refl refl refl refl
    (rw (phase, done) at told) renamed) c.keep.ensures.said c.keep.ensures.renames
