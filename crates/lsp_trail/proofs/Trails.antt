-- The trail once one more event was told.
use Rattle.std.specs.Borrow.{Bor}
use Rattle.std.specs.Prelude.{Bool, option_and_then, option_map, Result, Ok, Err, OnOk}
use Rattle.std.specs.List.{cons_option, last_or}
use Rattle.std.specs.Option.{option_or}
use Rattle.std.proofs.Common.{◌≡◌, ℕ, List, [], ◌∷◌, ◌++◌, Option, Some, None, refl, sym, ap, ◌∙◌}
use Rattle.std.proofs.Common.{append-nil, map, subst}
use Rattle.lsp_replay.specs.Common.{AreAccepted, Call, call_at, calls, content, Counts, Event}
use Rattle.lsp_replay.specs.Common.{HasFate, Heard, heard_events, is_done, kept_before, kept_of}
use Rattle.lsp_replay.specs.Common.{message, message_view, phase, place_of, Reads, rule_at, rule_of}
use Rattle.lsp_replay.specs.Common.{Sent, sent_in, Side, snapshot, Spoken, Stood, Terms, took_by}
use Rattle.lsp_replay.specs.Common.{uri_of}
use Rattle.lsp_docs.specs.State as docs
use Rattle.lsp_docs.specs.declared.call.Took.{Took}
use Rattle.lsp_replay.specs.Telling.{IsSpoken, took_of}
use Rattle.lsp_replay.specs.declared.heard.EventPlace.{EventPlace}
use Rattle.lsp_replay.specs.declared.seen.Fate.{Fate}
use Rattle.lsp_replay.specs.declared.seen.Fate.TheVariants as fates
use Rattle.lsp_replay.proofs.Seeing.{events-push}
use Rattle.lsp_session.specs.State as session
use Rattle.lsp_verdict.specs.Event.{fault}
use Rattle.lsp_verdict.specs.Given.{raw_view}
use Rattle.lsp_verdict.proofs.LookBackLemmas.{each_of-snoc}
use Rattle.lsp_verdict.proofs.Offences.Steps.{kept-push, kept-refused}
use Rattle.lsp_verdict.specs.declared.raw.Raw as lent
use Rattle.lsp_verdict.specs.declared.raw.Raw.TheVariants as lents
use Rattle.lsp_trail.specs.Bases.{KeepsBy}
use Rattle.lsp_trail.specs.History.{KeptCall, call_kept, event_kept, kept_call, kept_calls}
use Rattle.lsp_trail.specs.History.{last_ones, step_of}
use Rattle.lsp_trail.specs.Marking.{MarkedBy, finds_equal, marked_in}
use Rattle.lsp_trail.specs.Openings.{Holds, OpenedBy, ons_view}
use Rattle.lsp_trail.specs.Renames.{RenamesIn, moves_view, renamed_by, renamed_held}
use Rattle.lsp_trail.specs.Conversations.{IsConversation, Says}
use Rattle.lsp_trail.specs.Saves.{AreSaves, event_save, most_saves, save_by, saves_unopened}
use Rattle.lsp_trail.specs.LastChange.{IsLastChange, change_by, event_change, last_view}
use Rattle.lsp_trail.specs.Trails.{IsTrail, Keeps}
use Rattle.lsp_trail.specs.Uncompared.{AreUncompared, LeavesOn, all_left, event_left, last_left}
use Rattle.lsp_trail.specs.Uncompared.{left_by, left_on, uncompared_in}
use Rattle.lsp_trail.specs.declared.marks.Marks.{Marks}
use Rattle.lsp_trail.specs.declared.openings.Openings.{Openings}
use Rattle.lsp_trail.specs.declared.renames.Renames.{Renames}
use Rattle.lsp_trail.specs.declared.conversation.Conversation.{Conversation}
use Rattle.lsp_trail.specs.declared.uncompared.Uncompared.{Uncompared}
use Rattle.lsp_trail.specs.declared.trail.Trail.{Trail}
use Rattle.lsp_trail.specs.declared.step.Step.{Step}
use Rattle.lsp_trail.specs.declared.bases.Bases.{Bases}
use Rattle.lsp_trail.proofs.Basing.{HoldAll}
use Rattle.lsp_trail.proofs.BasingShown.{hold_more, hold_same}
use Rattle.lsp_trail.proofs.Changing.{last_more}
use Rattle.lsp_trail.proofs.History.{kept_more, refused_more}
use Rattle.lsp_trail.proofs.Quiet.{call_taken}
use Rattle.lsp_trail.proofs.SessionSteps.{message_taken, refused_unsaid}
use Rattle.lsp_trail.proofs.Uncomparing.{left_more}

-- nothing more
pub none_kept : (m : Marks) (o : Openings) → Keeps None m o m o
none_kept m o = record {
  marked = λ calls are. subst (MarkedBy m.map.entries) (sym (append-nil calls)) are;
  opened = λ calls are. subst (OpenedBy o) (sym (append-nil calls)) are;
}

pub on_ok_two : {U E P Q R : Type 0} (r : Result U E) → (P → Q → R) → OnOk r P → OnOk r Q
    → OnOk r R
on_ok_two (Ok u) f p q = f p q
on_ok_two (Err e) f p q = tt

-- one that is kept and says nothing of a document is a message
pub is_message : (terms : Terms) (events : List Event) (e : Event) → rule_at terms events e ≡ None
    → call_at (kept_of terms events) e ≡ None → (sent : Sent) × (e ≡ message sent)
is_message terms events (message m) kept says = (m, refl)
is_message terms events (fault side rule) kept says = absurd (cc kept)
is_message terms events (snapshot uri number text) kept says = absurd (cc says)

-- and lent as a content
pub no_content : (raw : lent.Raw) (sent : Sent)
    → ((side : Side) (bytes behind : Bor (List ℕ)) → raw ≡ lents.Content side bytes behind → ⊥)
    → Reads (raw_view raw) (message sent) → ⊥
no_content (lents.Content side bytes behind) sent not reads = not side bytes behind refl
no_content _ sent not reads = absurd (cc reads)

-- of one that is not kept
pub fate_offends : (terms : Terms) (before : List Heard) (h : Heard) (f : Fate)
    → ((took : Took) → f ≡ fates.Kept took → ⊥) → HasFate terms before h f
    → (rule : ℕ) × (rule_of terms before h ≡ Some rule)
fate_offends terms before h (fates.Kept took) not has = absurd (not took refl)
fate_offends terms before h (fates.Offends rule tried) not has = (rule, has.0)

module _ (terms : Terms) (before : List Heard) (h : Heard) (old : Trail)
    (is : IsTrail terms old (heard_events before)) where
  abbrev events : List Event
  events = heard_events before

  -- an event that offends leaves nothing
  pub trail_past : (rule : ℕ) → rule_of terms before h ≡ Some rule
      → IsTrail terms old (heard_events (before ++ h ∷ []))
  trail_past rule offends =
      let same : kept_calls terms (events ++ h.note.event ∷ []) ≡ kept_calls terms events =
      refused_more (event_kept terms) terms events h.note.event rule offends in
      subst (IsTrail terms old) (sym (events-push before h)) (record {
        marked = subst (MarkedBy old.marks.map.entries) (sym same) is.marked;
        opened = subst (OpenedBy old.openings) (sym same) is.opened;
        based = subst (λ ks. HoldAll terms (calls (kept_of terms (events ++ h.note.event ∷ []))) ks
            old.bases.map.entries) (sym same)
            (subst (λ es. HoldAll terms (calls es) (kept_calls terms events) old.bases.map.entries)
            (sym (kept-refused terms events h.note.event rule offends)) is.based);
        changed = is.changed ∙ ap (last_or None)
            (sym (refused_more event_change terms events h.note.event rule offends));
        saved = is.saved ∙ ap (last_ones most_saves)
            (sym (refused_more (event_save terms) terms events h.note.event rule offends));
        shown = λ uri. is.shown uri ∙ ap (last_left uri)
            (sym (refused_more (event_left terms) terms events h.note.event rule offends));
        said = refused_unsaid terms old.said events h.note.event rule is.said offends;
      })

  module _ (new : Trail) (kept_here : rule_of terms before h ≡ None) (place : EventPlace)
      (at : place ≡ place_of events h.note.event) where
    -- one that is kept and does this to a document
    kept_so : (more : Option KeptCall)
        → event_kept terms place (kept_of terms events) h.note.event ≡ more
        → Keeps more old.marks old.openings new.marks new.openings
        → HoldAll terms (calls (kept_of terms (events ++ h.note.event ∷ [])))
        (kept_calls terms events ++ cons_option more []) new.bases.map.entries
        → IsLastChange terms new.last_change (events ++ h.note.event ∷ [])
        → AreSaves terms new.saves (events ++ h.note.event ∷ [])
        → AreUncompared terms new.uncompared.map.entries (events ++ h.note.event ∷ [])
        → IsConversation terms new.said (events ++ h.note.event ∷ [])
        → IsTrail terms new (heard_events (before ++ h ∷ []))
    kept_so more does keeps based changed saved shown said =
        let whole : kept_calls terms (events ++ h.note.event ∷ [])
        ≡ kept_calls terms events ++ cons_option more [] =
        kept_more (event_kept terms) terms events h.note.event place more kept_here at does in
        subst (IsTrail terms new) (sym (events-push before h)) (record {
          marked = subst (MarkedBy new.marks.map.entries) (sym whole)
              (keeps.marked (kept_calls terms events) is.marked);
          opened = subst (OpenedBy new.openings) (sym whole)
              (keeps.opened (kept_calls terms events) is.opened);
          based = subst (λ ks. HoldAll terms
              (calls (kept_of terms (events ++ h.note.event ∷ []))) ks new.bases.map.entries)
              (sym whole) based;
          changed = changed;
          saved = saved;
          shown = shown;
          said = said;
        })

    -- the calls up to it
    pub calls_with : (call : Call) → call_at (kept_before terms before) h.note.event ≡ Some call
        → calls (kept_of terms (events ++ h.note.event ∷ []))
        ≡ calls (kept_of terms events) ++ call ∷ []
    calls_with call says =
        ap calls (kept-push terms events h.note.event kept_here)
        ∙ each_of-snoc call_at (kept_of terms events) h.note.event
        ∙ ap (λ o. calls (kept_of terms events) ++ cons_option o []) says

    calls_without : call_at (kept_before terms before) h.note.event ≡ None
        → calls (kept_of terms (events ++ h.note.event ∷ [])) ≡ calls (kept_of terms events)
    calls_without says =
        ap calls (kept-push terms events h.note.event kept_here)
        ∙ each_of-snoc call_at (kept_of terms events) h.note.event
        ∙ ap (λ o. calls (kept_of terms events) ++ cons_option o []) says
        ∙ append-nil (calls (kept_of terms events))

    -- what is held of the texts after one that does something to a document
    pub based_called : (messages : session.State) (d : docs.State) (counts : Counts) (call : Call)
        (took : Took) (step : Step) (found : Bool)
        → Stood terms messages d counts (before ++ h ∷ [])
        → call_at (kept_before terms before) h.note.event ≡ Some call
        → took ≡ took_of terms (calls (kept_before terms before)) (Some call)
        → Some step ≡ step_of call took
        → found ≡ finds_equal step (marked_in old.marks.map.entries (uri_of call))
        → ((after : List Call) → docs.Stands d after
        → KeepsBy d.terms after call step found old.bases.map.entries new.bases.map.entries)
        → HoldAll terms (calls (kept_of terms events) ++ call ∷ [])
        (kept_calls terms events ++ cons_option (call_kept place call took) [])
        new.bases.map.entries
    based_called messages d counts call took step found stood says told does equal keeps =
        let before-it : List Call = calls (kept_of terms events) in
        let stands : docs.Stands d (before-it ++ call ∷ []) =
        subst (docs.Stands d)
        (ap (λ es. calls (kept_of terms es)) (events-push before h) ∙ calls_with call says)
        stood.holds.called in
        subst (λ (o : Option Step). HoldAll terms (before-it ++ call ∷ []) (kept_calls terms events
        ++ cons_option (option_map (kept_call (uri_of call) place) o) []) new.bases.map.entries)
        does
        (hold_more terms before-it call (kept_calls terms events) place step found
        old.bases.map.entries new.bases.map.entries
        (subst (λ (t : Terms). AreAccepted t (before-it ++ call ∷ [])) stood.by stands.accepted)
        (ap (step_of call) (sym told) ∙ sym does)
        (equal ∙ ap (finds_equal step) (is.marked (uri_of call)))
        (subst (λ (t : Terms). KeepsBy t (before-it ++ call ∷ []) call step found
        old.bases.map.entries new.bases.map.entries) stood.by (keeps (before-it ++ call ∷ []) stands))
        is.based)

    -- and after one that does nothing
    pub based_same : (call : Call) (took : Took)
        → took ≡ took_of terms (calls (kept_before terms before)) (Some call)
        → None ≡ step_of call took
        → HoldAll terms (calls (kept_of terms events) ++ call ∷ [])
        (kept_calls terms events ++ cons_option (call_kept place call took) [])
        old.bases.map.entries
    based_same call took told nothing =
        let before-it : List Call = calls (kept_of terms events) in
        subst (λ (o : Option Step). HoldAll terms (before-it ++ call ∷ []) (kept_calls terms events
        ++ cons_option (option_map (kept_call (uri_of call) place) o) []) old.bases.map.entries)
        nothing
        (subst (λ ks. HoldAll terms (before-it ++ call ∷ []) ks old.bases.map.entries)
        (sym (append-nil (kept_calls terms events)))
        (hold_same terms before-it call (kept_calls terms events) old.bases.map.entries
        (ap (step_of call) (sym told) ∙ sym nothing) is.based))

    -- one that says this about a document
    pub trail_called : (call : Call) (took : Took) (r : Renames) → Reads h.raw h.note.event
        → call_at (kept_before terms before) h.note.event ≡ Some call
        → took ≡ took_of terms (calls (kept_before terms before)) (Some call)
        → Keeps (call_kept place call took) old.marks old.openings new.marks new.openings
        → HoldAll terms (calls (kept_of terms events) ++ call ∷ [])
        (kept_calls terms events ++ cons_option (call_kept place call took) [])
        new.bases.map.entries
        → last_view new.last_change ≡ option_or (change_by place call) (last_view old.last_change)
        → Holds most_saves (cons_option (save_by terms (calls (kept_before terms before)) place call)
        []) old.saves.saved.items new.saves.saved.items
        → LeavesOn (left_by place call took) old.uncompared.map.entries new.uncompared.map.entries
        → new.said ≡ record old.said { renames = r } → r.moves ≡ old.said.renames.moves
        → renamed_held r ≡ option_or (renamed_held old.said.renames)
        (renamed_by place (moves_view old.said.renames.moves.items) call)
        → IsTrail terms new (heard_events (before ++ h ∷ []))
    trail_called call took r reads says told keeps based changed saves leaves same moves renamed =
        kept_so (call_kept place call took)
        (ap (option_and_then (λ one. call_kept place one
        (took_by terms (calls (kept_of terms events)) one))) says
        ∙ ap (call_kept place call) (sym told)) keeps
        (subst (λ cs. HoldAll terms cs
        (kept_calls terms events ++ cons_option (call_kept place call took) [])
        new.bases.map.entries) (sym (calls_with call says)) based)
        (changed ∙ ap (option_or (change_by place call)) is.changed
        ∙ last_more (change_by place call) _ _
        (kept_more event_change terms events h.note.event place (change_by place call) kept_here at
        (ap (option_and_then (change_by place)) says)))
        (saves (saves_unopened terms events) is.saved
        ∙ ap (last_ones most_saves) (sym (kept_more (event_save terms) terms events h.note.event
        place (save_by terms (calls (kept_of terms events)) place call) kept_here at
        (ap (option_and_then (save_by terms (calls (kept_of terms events)) place)) says))))
        (λ uri. leaves uri ∙ ap (left_on (left_by place call took) uri) (is.shown uri)
        ∙ left_more uri (all_left terms events) (left_by place call took)
        ∙ ap (last_left uri) (sym (kept_more (event_left terms) terms events h.note.event place
        (left_by place call took) kept_here at
        (ap (option_and_then (λ one. left_by place one
        (took_by terms (calls (kept_of terms events)) one))) says
        ∙ ap (left_by place call) (sym told)))))
        (subst (λ (n : Conversation). IsConversation terms n (events ++ h.note.event ∷ [])) (sym same)
        (call_taken terms old.said r events h.note.event h.raw place call is.said kept_here reads at
        says moves renamed))

    -- a message that says nothing of a document
    pub trail_said : (side : Side) (bytes : List ℕ) (by : Side) (s : Spoken)
        → Reads (content side bytes) h.note.event
        → IsSpoken (kept_before terms before) h.note.event by s
        → call_at (kept_before terms before) h.note.event ≡ None
        → new.marks ≡ old.marks → new.openings ≡ old.openings → new.bases ≡ old.bases
        → new.last_change ≡ old.last_change → new.saves ≡ old.saves
        → new.uncompared ≡ old.uncompared
        → Says place side (message_view s.message)
        (phase (sent_in (kept_of terms (heard_events (before ++ h ∷ [])))))
        (is_done (sent_in (kept_of terms (heard_events (before ++ h ∷ []))))) old.said new.said
        → RenamesIn place side bytes (message_view s.message) None old.said.renames new.said.renames
        → IsTrail terms new (heard_events (before ++ h ∷ []))
    trail_said side bytes by s reads spoken says marks openings bases last saves shown told
        renamed =
        let sent = spoken.sent in
        let own = subst (λ (e : Event). Reads (content side bytes) e) spoken.is reads in
        let all : heard_events (before ++ h ∷ []) ≡ events ++ message sent ∷ [] =
        events-push before h ∙ ap (λ (e : Event). events ++ e ∷ []) spoken.is in
        let here : Says place sent.side (message_view s.message)
        (phase (sent_in (kept_of terms (events ++ message sent ∷ []))))
        (is_done (sent_in (kept_of terms (events ++ message sent ∷ [])))) old.said new.said =
        subst (λ (es : List Event). Says place sent.side (message_view s.message)
        (phase (sent_in (kept_of terms es))) (is_done (sent_in (kept_of terms es))) old.said
        new.said) all
        (subst (λ (x : Side). Says place x (message_view s.message)
        (phase (sent_in (kept_of terms (heard_events (before ++ h ∷ [])))))
        (is_done (sent_in (kept_of terms (heard_events (before ++ h ∷ []))))) old.said new.said)
        (sym own.by) told) in
        kept_so None
        (ap (option_and_then (λ one. call_kept place one
        (took_by terms (calls (kept_of terms events)) one))) says)
        (subst (λ (m : Marks). Keeps None old.marks old.openings m new.openings) (sym marks)
        (subst (Keeps None old.marks old.openings old.marks) (sym openings)
        (none_kept old.marks old.openings)))
        (subst (λ (b : Bases). HoldAll terms
        (calls (kept_of terms (events ++ h.note.event ∷ []))) (kept_calls terms events ++ [])
        b.map.entries) (sym bases)
        (subst (λ cs. HoldAll terms cs (kept_calls terms events ++ []) old.bases.map.entries)
        (sym (calls_without says))
        (subst (λ ks. HoldAll terms (calls (kept_of terms events)) ks old.bases.map.entries)
        (sym (append-nil (kept_calls terms events))) is.based)))
        (ap last_view last ∙ is.changed
        ∙ last_more None _ _
        (kept_more event_change terms events h.note.event place None kept_here at
        (ap (option_and_then (change_by place)) says)))
        (ap (λ s. ons_view s.saved.items) saves ∙ is.saved
        ∙ ap (last_ones most_saves) (sym (kept_more (event_save terms) terms events h.note.event
        place None kept_here at
        (ap (option_and_then (save_by terms (calls (kept_of terms events)) place)) says)
        ∙ append-nil (saves_unopened terms events))))
        (λ uri. ap (λ (u : Uncompared). uncompared_in u.map.entries uri) shown ∙ is.shown uri
        ∙ ap (last_left uri) (sym (kept_more (event_left terms) terms events h.note.event place None
        kept_here at (ap (option_and_then (λ one. left_by place one
        (took_by terms (calls (kept_of terms events)) one))) says)
        ∙ append-nil (all_left terms events))))
        (subst (λ (e : Event). IsConversation terms new.said (events ++ e ∷ [])) (sym spoken.is)
        (message_taken terms old.said new.said events sent bytes (message_view s.message) place
        is.said (ap (λ (e : Event). rule_at terms events e) (sym spoken.is) ∙ kept_here)
        (at ∙ ap (λ (e : Event). place_of events e) spoken.is) own.reads spoken.says
        spoken.has_value here
        (subst (λ o. RenamesIn place sent.side bytes (message_view s.message) o old.said.renames
        new.said.renames)
        (sym says ∙ ap (λ (e : Event). call_at (kept_of terms events) e) spoken.is)
        (subst (λ (x : Side). RenamesIn place x bytes (message_view s.message) None
        old.said.renames new.said.renames) (sym own.by) renamed))))
