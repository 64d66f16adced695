-- What is said of an event that offends, by what was seen of it.
use Rattle.std.specs.Prelude.{◌⊎◌, ℤ, if◌then◌else◌, nat_lt}
use Rattle.std.proofs.Common.{◌≡◌, ◌<◌, ◌≤◌, ◌++◌, [], ℕ, Bool, Bor, List, Some, None}
use Rattle.std.proofs.Common.{append-nil, arith, false, inl, inr, refl, sym, ap, ◌∙◌, subst, true}
use Rattle.std.proofs.lemmas.Bool.Decides.{nat_tests}
use Rattle.lsp_trail.specs.Common.{broken, content, Event, fault, IsSpoken, kept_of, MaySpeak}
use Rattle.lsp_trail.specs.Common.{Message, message, message_view, notification, Numbered, numbered}
use Rattle.lsp_trail.specs.Common.{offence, outline, Raw, raw_view, Reads, request, response}
use Rattle.lsp_trail.specs.Common.{rest_of, Rests, said_at, Sent, sent_in, Side, snapshot, Spoken}
use Rattle.lsp_trail.specs.Common.{Terms, Who}
use Rattle.lsp_frame.specs.Front.{header_front}
use Rattle.lsp_rpc.specs.Act.{Act}
use Rattle.lsp_rpc.specs.Outline.{without_params}
use Rattle.lsp_session.specs.Handshake.{open_initializes, settled_among}
use Rattle.lsp_session.specs.OpenInitialize.{Initialize}
use Rattle.lsp_session.specs.Rules.{rule_after}
use Rattle.lsp_verdict.specs.Heard.{behind_at}
use Rattle.lsp_verdict.specs.Verdict.{document_rule}
use Rattle.lsp_verdict.specs.declared.raw.Raw as lent
use Rattle.lsp_verdict.specs.declared.raw.Raw.TheVariants as lents
use Rattle.lsp_facts.specs.EventFacts.{content_facts, AreCallFacts, AreFacts, AreFactsBy}
use Rattle.lsp_facts.specs.EventFacts.{frame_facts, header_facts, id_in, session_facts}
use Rattle.lsp_facts.specs.Fact.{Fact, bare_event, content_event, event_line, message_event}
use Rattle.lsp_facts.proofs.CallBreaks.{by_rule}
use Rattle.lsp_facts.proofs.SomeFacts.{id_in-outline, message_named, same_line}
use Rattle.lsp_trail.proofs.SessionSteps.{alike}
use Rattle.lsp_origins.specs.Traced.{AreTraced, earlier_at, said_traced, session_trace, traced}

module _ (terms : Terms) (before : List Event) (rule : ℕ) where
  abbrev kept : List Event
  kept = kept_of terms before

  -- the facts on this event, with the events that brought it
  abbrev pub AreAll : Rests → Raw → Event → List Fact → Type 0
  AreAll rests raw event facts =
      AreTraced (AreFacts rests before terms kept raw event rule) (earlier_at terms before event)
      (traced terms before event rule) facts

  -- a fault of the frames
  pub frames_said : (rests : Rests) (side : Side) (code : ℕ) (event : Event) (rest : List ℕ)
      (facts : List Fact) → Reads (broken side code) event
      → header_front rest ≡ header_front (rest_of rests side) → facts ≡ frame_facts rest
      → AreAll rests (broken side code) event facts
  frames_said rests side code event rest facts reads fits says =
      subst (λ (e : Event). AreAll rests (broken side code) e facts) (sym reads)
      (facts, says ∙ ap header_facts fits, sym (append-nil facts))

  -- a content that is no message
  pub unread_said : (rests : Rests) (side : Side) (bytes behind : List ℕ) (event : Event)
      (facts : List Fact) → Reads (content side bytes) event → MaySpeak kept event None
      → behind ≡ behind_at rests before side → facts ≡ content_facts rule bytes behind
      → AreAll rests (content side bytes) event facts
  unread_said rests side bytes behind (fault by code) facts reads silent fits says =
      (facts, says ∙ ap (content_facts rule bytes) fits, sym (append-nil facts))
  unread_said rests side bytes behind (message m) facts reads silent fits says =
      absurd (silent m refl)
  unread_said rests side bytes behind (snapshot uri number text) facts reads silent fits says =
      absurd reads

  module _ (rests : Rests) (raw : Raw) (event : Event) (facts : List Fact) where
    -- a message that breaks a rule on messages
    pub message_said : (side : Side) (s : Spoken) → (own : IsSpoken kept event side s) → rule < 601
        → facts ≡ session_facts rule (sent_in kept) own.sent
        ++ session_trace rule (numbered terms before) own.sent.side (id_in own.sent.message)
        → AreAll rests raw event facts
    message_said side s own less says =
        let below : nat_lt rule 601 ≡ true = grind (arith, nat_tests) in
        let m = own.sent in
        let plain = session_facts rule (sent_in kept) m in
        subst (λ (e : Event). AreAll rests raw e facts) (sym own.is)
        (subst (λ (b : Bool). AreTraced (AreFactsBy b terms kept m rule)
        (earlier_at terms before (message m))
        (if b then session_trace rule (numbered terms before) m.side (id_in m.message)
        else said_traced terms before (message m) rule) facts) (sym below) (plain, refl, says))

    -- what an event says about a document
    abbrev AreSaid : Event → Type 0
    AreSaid e = AreTraced (AreCallFacts terms kept rule (said_at terms before e))
        (earlier_at terms before e) (said_traced terms before e rule) facts

    -- a message that breaks a rule on documents
    pub call_said : (side : Side) (s : Spoken) → IsSpoken kept event side s → 601 ≤ rule
        → AreSaid event → AreAll rests raw event facts
    call_said side s own more says =
        let above : nat_lt rule 601 ≡ false = grind (arith, nat_tests) in
        let m = own.sent in
        subst (λ (e : Event). AreAll rests raw e facts) (sym own.is)
        (subst (λ (b : Bool). AreTraced (AreFactsBy b terms kept m rule)
        (earlier_at terms before (message m))
        (if b then session_trace rule (numbered terms before) m.side (id_in m.message)
        else said_traced terms before (message m) rule) facts) (sym above)
        (subst AreSaid own.is says))

    -- a snapshot
    pub shown_said : (number : ℤ) (uri text : List ℕ) → event ≡ snapshot uri number text
        → AreSaid event → AreAll rests raw event facts
    shown_said number uri text own says =
        subst (λ (e : Event). AreAll rests raw e facts) (sym own) (subst AreSaid own says)

-- ---- the rule

-- from 601 on it is broken by what a message says about a document
pub message_breaks : (terms : Terms) (kept : List Event) (event : Event) (side : Side) (s : Spoken)
    (rule : ℕ) → IsSpoken kept event side s → 601 ≤ rule → offence terms kept event ≡ Some rule
    → document_rule terms kept event ≡ Some rule
message_breaks terms kept event side s rule own least offends =
    ap (document_rule terms kept) own.is
    ∙ by_rule terms kept own.sent rule least (rule_after (sent_in kept) own.sent) refl
    (ap (offence terms kept) (sym own.is) ∙ offends)

pub shown_breaks : (terms : Terms) (kept : List Event) (event : Event) (number : ℤ)
    (uri text : List ℕ) (rule : ℕ) → event ≡ snapshot uri number text
    → offence terms kept event ≡ Some rule → document_rule terms kept event ≡ Some rule
shown_breaks terms kept event number uri text rule own offends =
    ap (document_rule terms kept) own ∙ ap (offence terms kept) (sym own) ∙ offends

-- ---- a message as it was heard

bare_settles : (opens : List Initialize) (side : Side) (m : Message)
    → settled_among opens side (without_params m) ≡ settled_among opens side m
bare_settles opens side (request id method params) = refl
bare_settles opens side (notification method params) = refl
bare_settles opens side (response id reply) = refl

module _ (rule : ℕ) (m : Sent) (side : Side) (said : Message) (by : m.side ≡ side)
    (same : outline m.message ≡ outline said) where
  same_id : id_in said ≡ id_in m.message
  same_id = alike id_in m.message said id_in-outline same

  -- what is traced of it
  pub trace_heard : (before : List Numbered)
      → session_trace rule before side (id_in said)
      ≡ session_trace rule before m.side (id_in m.message)
  trace_heard before = λ i. session_trace rule before (sym by i) (same_id i)

  -- and the facts on it
  pub session_heard : (before : List Sent) (act : Act) → m.act ≡ act
      → (open_initializes before ≡ []) ⊎ (said ≡ without_params m.message)
      → session_facts rule before (record { side = side; message = said; act = act })
      ≡ session_facts rule before m
  session_heard before act means has_value = rw (same_id, ← means, settles has_value) refl
    where
      settles : (open_initializes before ≡ []) ⊎ (said ≡ without_params m.message)
          → settled_among (open_initializes before) side said
          ≡ settled_among (open_initializes before) m.side m.message
      settles (inl none) = rw none refl
      settles (inr bare) =
          (λ i. settled_among (open_initializes before) (sym by i) (bare i))
          ∙ bare_settles (open_initializes before) m.side m.message

-- what is no content is told without words
pub bare_said : (event number : ℕ) (who : Who) (raw : lent.Raw)
    → ((side : Side) (bytes behind : Bor (List ℕ)) → raw ≡ lents.Content side bytes behind → ⊥)
    → bare_event event who number ≡ event_line event who number (raw_view raw)
bare_said event number who (lents.Content side bytes behind) not =
    absurd (not side bytes behind refl)
bare_said event number who _ not = refl

-- the line of a message is that of its content
pub line_said : (kept : List Event) (side : Side) (bytes : List ℕ) (e : Event) (s : Spoken)
    (by : Side) (event number : ℕ) (who : Who) → Reads (content side bytes) e
    → IsSpoken kept e by s → message_event event who number (message_view s.message)
    ≡ event_line event who number (content side bytes)
line_said kept side bytes e s by event number who reads spoken =
    let own = spoken.sent in
    let sent = subst (λ (x : Event). Reads (content side bytes) x) spoken.is reads in
    sym (same_line event who number own.message (message_view s.message) spoken.says)
    ∙ sym (ap (content_event event who number) (message_named bytes own.message sent.reads))
