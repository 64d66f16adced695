use Rattle.std.specs.Prelude.{chars, option_map}
use Rattle.std.proofs.Common.{◌∙◌, Bor, subst, sym}
use Rattle.std.proofs.lemmas.Result.{IfOk-weaker}
use Rattle.lsp_trail.specs.Common.{call_at, calls, content, Counted, Event, IsTriedOf, kept_of}
use Rattle.lsp_trail.specs.Common.{made_in, show, terms_in, Tried}
use Rattle.lsp_replay.proofs.Apart.{said_by}
use Rattle.lsp_origins.proofs.SaidFacts.{call_said, frames_said, message_breaks}
use Rattle.lsp_origins.proofs.SaidFacts.{message_said, shown_breaks, shown_said, unread_said}
use Rattle.lsp_origins.proofs.offence_facts.facts_of.Goals as goal

pub returns-in-Broken : goal.returns-in-Broken
returns-in-Broken c = rw c.in-Broken.is (IfOk-weaker c.frame_facts.result _ _
    (λ facts are event before stands place reads speaks says tries offends rests fits.
    frames_said (terms_in c.args.past) before c.args.offence.now.rule rests _ _ event
    c.in-Broken.rest.now facts reads fits are) c.frame_facts.ensures)

-- a message that breaks a rule on messages
pub returns-then-rule-lt-FIRST_ON_DOCUMENTS : goal.returns-then-rule-lt-FIRST_ON_DOCUMENTS
returns-then-rule-lt-FIRST_ON_DOCUMENTS c =
    rw (c.in-Content.is, c.in-Some.is) (IfOk-weaker c.message_traced.result _ _
    (λ facts are event before stands place reads speaks says tries offends rests fits.
    let terms = terms_in c.args.past in
    let s = c.in-Some.spoken.now in
    let side = c.in-Content.side in
    let bytes = c.in-Content.content.now in
    let own = said_by side bytes (kept_of terms before) event s reads speaks in
    message_said terms before c.args.offence.now.rule rests (content side bytes) event facts side s own
    c.if-rule-lt-FIRST_ON_DOCUMENTS.true (are event before stands own)) c.message_traced.ensures)

-- one on documents
pub returns-else-rule-lt-FIRST_ON_DOCUMENTS : goal.returns-else-rule-lt-FIRST_ON_DOCUMENTS
returns-else-rule-lt-FIRST_ON_DOCUMENTS c =
    rw (c.in-Content.is, c.in-Some.is) (IfOk-weaker c.said_traced.result _ _
    (λ facts are event before stands place reads speaks says tries offends rests fits.
    let terms = terms_in c.args.past in
    let rule = c.args.offence.now.rule in
    let least = c.if-rule-lt-FIRST_ON_DOCUMENTS.false in
    let s = c.in-Some.spoken.now in
    call_said terms before rule rests (content c.in-Content.side c.in-Content.content.now) event
    facts speaks.0 s speaks.1 least
    (are before event stands (c.place_in.ensures ∙ place) says
    (message_breaks terms (kept_of terms before) event speaks.0 s rule speaks.1 least offends)
    (tries least))) c.said_traced.ensures)

pub returns-in-None : goal.returns-in-None
returns-in-None c = rw (c.in-Content.is, c.in-None.is) (IfOk-weaker c.content_facts.result _ _
    (λ facts are event before stands place reads speaks says tries offends rests fits.
    unread_said (terms_in c.args.past) before c.args.offence.now.rule rests c.in-Content.side
    c.in-Content.content.now c.in-Content.behind.now event facts reads speaks fits are)
    c.content_facts.ensures)

pub returns-in-Snapshot : goal.returns-in-Snapshot
returns-in-Snapshot c =
    rw c.in-Snapshot.is (IfOk-weaker c.said_traced-in-Snapshot.result _ _
    (λ facts are event before stands place reads speaks says tries offends rests shown.
    let terms = terms_in c.args.past in
    let rule = c.args.offence.now.rule in
    let made = made_in (option_map (λ (t : Bor (Tried Counted)). t.now) c.args.tried) in
    let number = c.in-Snapshot.version in
    let uri = c.in-Snapshot.uri.now in
    let text = c.in-Snapshot.text.now in
    shown_said terms before rule rests (show number uri text) event facts number uri (chars text)
    reads
    (are before event stands (c.place_in-in-Snapshot.ensures ∙ place) says
    (shown_breaks terms (kept_of terms before) event number uri (chars text) rule reads offends)
    (subst (λ (e : Event). IsTriedOf terms (calls (kept_of terms before))
    (call_at (kept_of terms before) e) made) (sym reads) tt)))
    c.said_traced-in-Snapshot.ensures)
