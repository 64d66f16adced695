-- How an event that was read is kept: admitted, and taken over.
use Rattle.std.proofs.Common.{◌≡◌, ℕ, List, [], ◌∷◌, ◌++◌, Option, Some, None, refl, sym, ap}
use Rattle.std.proofs.Common.{append-nil, arith, subst, ◌∙◌}
use Rattle.std.specs.Prelude.{option_and_then}
use Rattle.std.specs.List.{cons_option}
use Rattle.std.specs.Option.{option_or}
use Rattle.lsp_rpc.specs.Fault.{IsUnspoken}
use Rattle.lsp_rpc.specs.Params.{act_at}
use Rattle.lsp_rpc.specs.View.{act_view, message_view}
use Rattle.lsp_rpc.specs.declared.act.Spoken.{Spoken}
use Rattle.lsp_types.specs.Fault.{IsRule, Names}
use Rattle.lsp_types.specs.declared.fault.Fault.{Fault}
use Rattle.lsp_types.specs.declared.fault.Fault.TheVariants.{Rule, Memory}
use Rattle.lsp_types.specs.declared.side.Side.{Side}
use Rattle.lsp_session.proofs.LeastRuleLemmas.{rules_end}
use Rattle.lsp_session.specs.Laws.{sent_by}
use Rattle.lsp_session.specs.Rules.{rule_after}
use Rattle.lsp_session.specs.Sent.{Sent}
use Rattle.lsp_session.specs.State as session
use Rattle.lsp_docs.specs.Calls.{Call}
use Rattle.lsp_docs.specs.Documents.{Terms}
use Rattle.lsp_docs.specs.Rules.{call_rule}
use Rattle.lsp_docs.specs.State as docs
use Rattle.lsp_docs.specs.Tried.{Made}
use Rattle.lsp_docs.specs.declared.call.Took.{Took}
use Rattle.lsp_verdict.specs.Event.{call_at, calls, Event, message, fault as broken_rule}
use Rattle.lsp_verdict.specs.Event.{snapshot, sent_in}
use Rattle.lsp_verdict.specs.Given.{raw_view}
use Rattle.lsp_verdict.specs.Placed.{Raw, Reads, ReadsAs, content, broken, show}
use Rattle.lsp_verdict.specs.Verdict.{offence, document_rule}
use Rattle.lsp_verdict.specs.declared.raw.Raw as code
use Rattle.lsp_verdict.specs.declared.raw.Raw.TheVariants as lent
use Rattle.lsp_verdict.proofs.LookBackLemmas.{each_of-snoc}
use Rattle.lsp_verdict.proofs.Messages.{sent_in-append}
use Rattle.lsp_verdict.proofs.Offences.Quiet.{leaves_session}
use Rattle.lsp_replay.proofs.Apart.{carried}
use Rattle.lsp_replay.specs.Keeping.{IsAdmitted, IsSound, RefusesEvent, Tries, message_rule}
use Rattle.lsp_replay.specs.Standing.{CanWantMemory, Holds, MayLackFor, RefusesCall}
use Rattle.lsp_replay.specs.Standing.{RefusesFor, TakesCall}
use Rattle.lsp_replay.specs.Telling.{MaySpeak, took_of}
use Rattle.lsp_replay.specs.Tries.{IsTriedOf}

-- ---- a content that says nothing

pub unread_for : (side : Side) (bytes : List ℕ) (terms : Terms) (events : List Event) (f : Fault)
    → IsUnspoken side bytes f → RefusesFor (content side bytes) terms events f
unread_for side bytes terms events (Rule rule) is = (broken_rule side rule, (refl, is), refl)
unread_for side bytes terms events Memory is = tt

-- ---- admitting

-- an event that is no content is no message
pub silent : (raw : code.Raw)
    → ((side : Side) (bytes behind : _) → raw ≡ lent.Content side bytes behind → ⊥) → (event : Event)
    → Reads (raw_view raw) event → (sent : Sent) → event ≡ message sent → ⊥
silent (lent.Content side bytes behind) not event reads sent is = not side bytes behind refl
silent _ not event reads sent is = let same = sym reads ∙ is in absurd (cc same)

-- a snapshot leaves the messages
module _ (messages : session.State) (events : List Event)
    (stands : session.Stands messages (sent_in events)) where
  pub unsaid : (event : Event) → ((sent : Sent) → event ≡ message sent → ⊥) → IsSound event
      → IsAdmitted messages events event
  unsaid (message m) not sound = absurd (not m refl)
  unsaid (broken_rule side rule) not sound = absurd sound
  unsaid (snapshot uri n t) not sound = (
    refl,
    subst (λ (w : List Sent). session.Stands messages w)
        (sym (sent_in-append events (snapshot uri n t ∷ []) ∙ append-nil (sent_in events))) stands,
  )

-- what is left of a message is admitted, or refused, as the message is
module _ (side : Side) (bytes : List ℕ) (s : Spoken) (events : List Event) where
  abbrev left : Sent
  left = sent_by side (act_view s.act) (message_view s.message)

  rule_left : (event : Event) → ReadsAs side bytes event → MaySpeak events event (Some s)
      → (m : Sent) × (event ≡ message m)
      × ((rule_after (sent_in events) left ≡ rule_after (sent_in events) m)
      × (session.state_of (sent_in events ++ left ∷ [])
      ≡ session.state_of (sent_in events ++ m ∷ [])))
  rule_left event reads (by, said) =
      let own : said.sent.side ≡ side =
      (subst (λ (e : Event). ReadsAs side bytes e) said.is reads).by in
      let same = carried (sent_in events) (message_view s.message) said.sent said.says
      said.has_value in
      let is : sent_by said.sent.side said.sent.act (message_view s.message) ≡ left =
      λ i. sent_by (own i) (said.means i) (message_view s.message) in (
        said.sent,
        said.is,
        (
          ap (rule_after (sent_in events)) (sym is) ∙ same.0,
          ap (λ m. session.state_of (sent_in events ++ m ∷ [])) (sym is) ∙ same.1,
        ),
      )

  pub said_admitted : (messages : session.State) (event : Event) → ReadsAs side bytes event
      → MaySpeak events event (Some s) → rule_after (sent_in events) left ≡ None
      → session.Stands messages (sent_in events ++ left ∷ []) → IsAdmitted messages events event
  said_admitted messages event reads speaks none stands =
      let whole = rule_left event reads speaks in
      subst (IsAdmitted messages events) (sym whole.1) (
        sym whole.2.0 ∙ none,
        subst (λ (w : List Sent). session.Stands messages w)
            (sym (sent_in-append events (message whole.0 ∷ []))) (stands ∙ whole.2.1),
      )

  pub said_refused : (event : Event) (f : Fault) → ReadsAs side bytes event
      → MaySpeak events event (Some s) → Names (rule_after (sent_in events) left) f
      → Names (message_rule events event) f
  said_refused event f reads speaks named =
      let whole = rule_left event reads speaks in
      subst (λ (e : Event). Names (message_rule events e) f) (sym whole.1)
      (subst (λ rule. Names rule f) whole.2.0 named)

-- ---- an event, by the rule on messages and the rule on documents

module _ (terms : Terms) (events : List Event) where
  pub rule_split : (event : Event) → IsSound event → offence terms events event
      ≡ option_or (message_rule events event) (document_rule terms events event)
  rule_split (broken_rule side rule) sound = absurd sound
  rule_split _ sound = refl

  module _ (event : Event) (sound : IsSound event) where
    -- it is not admitted
    pub refused_as_message : (raw : Raw) (f : Fault) → Names (message_rule events event) f
        → CanWantMemory terms events raw → RefusesEvent raw terms events event f
    refused_as_message raw (Rule rule) named wants =
        rule_split event sound ∙ ap (λ o. option_or o (document_rule terms events event)) named
    refused_as_message raw Memory named wants = wants

    pub document_offence : message_rule events event ≡ None
        → offence terms events event ≡ document_rule terms events event
    document_offence none =
        rule_split event sound ∙ ap (λ o. option_or o (document_rule terms events event)) none

-- a rule on messages is none on documents
pub not_tried : (terms : Terms) (events : List Event) (event : Event) (f : Fault)
    (tried : Option Made) → Names (message_rule events event) f
    → Tries terms events event f tried
not_tried terms events (message m) (Rule rule) tried named = λ least.
    absurd (omega (arith, rules_end (sent_in events) m rule named, least))
not_tried terms events event Memory tried named = tt
not_tried terms events _ (Rule rule) tried named = absurd (cc named)

-- ---- its call

module _ (old : docs.State) (events : List Event) (h : docs.Stands old (calls events))
    (event : Event) (sound : IsSound event) (none : message_rule events event ≡ None)
    (said : Option Call) (says : said ≡ call_at events event) where
  -- it is refused
  pub refused_as_call : (raw : Raw) (f : Fault) → Reads raw event → RefusesCall old said f
      → (f ≡ Memory → MayLackFor old said)
      → RefusesEvent raw old.terms events event f
  refused_as_call raw (Rule rule) reads refuses lacks =
      document_offence old.terms events event sound none
      ∙ ap (option_and_then (call_rule old.terms (calls events))) (sym says) ∙ named said refuses
    where
      named : (o : Option Call) → RefusesCall old o (Rule rule)
          → option_and_then (call_rule old.terms (calls events)) o ≡ Some rule
      named None refused = absurd refused
      named (Some call) refused = refused (calls events) h
  refused_as_call (content side bytes) Memory reads refuses lacks = tt
  refused_as_call (broken side rule) Memory reads refuses lacks = absurd (subst IsSound reads sound)
  refused_as_call (show n uri t) Memory reads refuses lacks =
      let lacking = subst (MayLackFor old) (says ∙ ap (call_at events) reads) (lacks refl) in
      sym (lacking.1 (calls events) h)

  -- and the messages stay
  pub refused_leaves : (raw : Raw) (messages : session.State) (f : Fault) → Reads raw event
      → RefusesCall old said f → IsAdmitted messages events event
      → session.Stands messages (sent_in events)
  refused_leaves raw messages f reads refuses admitted =
      let some = some_said said refuses in
      leaves raw event reads (some.0, sym says ∙ some.1) admitted.1
    where
      some_said : (o : Option Call) → RefusesCall old o f → (call : Call) × (o ≡ Some call)
      some_said None refused = absurd refused
      some_said (Some call) refused = (call, refl)

      leaves : (r : Raw) (e : Event) → Reads r e → (call : Call) × (call_at events e ≡ Some call)
          → session.Stands messages (sent_in (events ++ e ∷ []))
          → session.Stands messages (sent_in events)
      leaves (content side bytes) (message m) read says stands =
          subst (λ (w : List Sent). session.Stands messages w) (sent_in-append events (message m ∷ []))
          stands
          ∙ leaves_session (sent_in events) m.side m.message m.act _ _ says.0
          (subst (λ (by : Side). act_at by m.message ≡ Some m.act) (sym read.by) read.means) says.1
      leaves r (broken_rule side rule) read says stands = absurd (cc says.1)
      leaves r (snapshot uri n t) read says stands =
          subst (λ (w : List Sent). session.Stands messages w)
          (sent_in-append events (snapshot uri n t ∷ []) ∙ append-nil (sent_in events)) stands
      leaves _ (message m) read says stands = absurd (cc read)

  -- it is taken
  module _ (new : docs.State) (took : Took) (takes : TakesCall old new said took) where
    accepted_call : (o : Option Call) → TakesCall old new o took
        → (option_and_then (call_rule old.terms (calls events)) o ≡ None)
        × (docs.Stands new (calls events ++ cons_option o [])
        × (took ≡ took_of old.terms (calls events) o))
    accepted_call None (same, done) = (
      refl,
      (
        subst (λ (d : docs.State). docs.Stands d (calls events ++ [])) (sym same)
            (subst (docs.Stands old) (sym (append-nil (calls events))) h),
        done,
      ),
    )
    accepted_call (Some call) (accepts, tells) =
        (accepts.accepted (calls events) h, (accepts.stands (calls events) h, tells (calls events) h))

    pub taken_rule : offence old.terms events event ≡ None
    taken_rule = document_offence old.terms events event sound none
        ∙ ap (option_and_then (call_rule old.terms (calls events))) (sym says)
        ∙ (accepted_call said takes).0

    pub taken_says : took ≡ took_of old.terms (calls events) (call_at events event)
    taken_says = (accepted_call said takes).1.1 ∙ ap (took_of old.terms (calls events)) says

    pub taken_holds : (messages : session.State) → IsAdmitted messages events event
        → Holds messages new (events ++ event ∷ [])
    taken_holds messages admitted = record {
      sent = admitted.1;
      called = subst (λ (w : List Call). docs.Stands new w)
          (ap (λ (o : Option Call). calls events ++ cons_option o []) says
          ∙ sym (each_of-snoc call_at events event)) (accepted_call said takes).1.0;
    }

-- what was tried of it
pub tried_as_call : (terms : Terms) (events : List Event) (event : Event) (said : Option Call)
    → said ≡ call_at events event → (f : Fault) (tried : Option Made)
    → (IsRule f → IsTriedOf terms (calls events) said tried)
    → Tries terms events event f tried
tried_as_call terms events event said says (Rule rule) tried told = λ least.
    subst (λ (o : Option Call). IsTriedOf terms (calls events) o tried) says (told tt)
tried_as_call terms events event said says Memory tried told = tt
