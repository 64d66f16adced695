-- A message that says something of a document leaves what is kept of the session.
use Rattle.std.specs.Prelude.{◌&&◌, not, if◌then◌else◌, is_some, option_and_then, option_map}
use Rattle.std.specs.Prelude.{option_to_list, unwrap_or}
use Rattle.std.specs.Option.{option_or}
use Rattle.std.proofs.Common.{◌≡◌, Bool, true, false, List, [], ◌∷◌, ◌++◌, Option, Some, None}
use Rattle.std.proofs.Common.{arith, inr, refl, sym, ap, ◌∙◌, append-nil, subst}
use Rattle.std.proofs.lemmas.Bool.Decides.{nat_tests}
use Rattle.std.proofs.lemmas.List.Elements.{filter_map-append}
use Rattle.lsp_docs.proofs.Entries.{is_some-mapped}
use Rattle.lsp_replay.specs.Common.{act_at, answered_from, broken, Call, call_at, call_of, content}
use Rattle.lsp_replay.specs.Common.{Encoding, encoding, Event, first_settled, id_view, Ident}
use Rattle.lsp_replay.specs.Common.{is_done, is_empty, kept_of, Message, message, Nothing}
use Rattle.lsp_replay.specs.Common.{open_initializes, outline, Phase, phase, place_of, Reads}
use Rattle.lsp_replay.specs.Common.{rule_at, same_side, Sent, sent_in, sent_of, Settled, show, Side}
use Rattle.lsp_replay.specs.Common.{snapshot, SyncKind, Terms, Utf16, without_params}
use Rattle.lsp_replay.specs.declared.heard.EventPlace.{EventPlace}
use Rattle.lsp_session.proofs.Steps.{option_or-none}
use Rattle.lsp_session.specs.Handshake.{was_sent}
use Rattle.lsp_session.specs.Sent.{is_exit, is_initialized, is_shutdown}
use Rattle.lsp_session.specs.Requests.{names}
use Rattle.lsp_session.specs.Negotiation.{agreed_at, sync_kind}
use Rattle.lsp_session.specs.State.{State, state_of}
use Rattle.lsp_session.specs.declared.phase.Phase.TheVariants as phases
use Rattle.lsp_types.specs.declared.side.Side.TheVariants.{Editor, Server}
use Rattle.lsp_verdict.specs.Event.{fault}
use Rattle.lsp_verdict.specs.Placed.{Raw}
use Rattle.lsp_verdict.proofs.Offences.Quiet.{leaves_session}
use Rattle.lsp_verdict.proofs.Offences.Steps.{kept-push}
use Rattle.lsp_trail.specs.Asking.{asks, leads, most_replies, reply_of}
use Rattle.lsp_trail.specs.History.{last_ones}
use Rattle.lsp_trail.specs.SessionNotes.{misuse_in, misused, misused_views, with_misuse}
use Rattle.lsp_trail.specs.SessionNotes.{abrupt, older_held, older_of}
use Rattle.lsp_trail.specs.Renames.{RenamesIn, moves_view, notifies_files, renamed_by}
use Rattle.lsp_trail.specs.Renames.{renamed_held, tells_files}
use Rattle.lsp_trail.specs.Conversations.{IsConversation, Exchanges, Says, place_in}
use Rattle.lsp_trail.specs.declared.exchange.Exchange.{Exchange}
use Rattle.lsp_trail.specs.declared.renames.Renames.{Renames}
use Rattle.lsp_trail.specs.declared.conversation.Conversation.{Conversation}
use Rattle.lsp_trail.proofs.SessionSteps.{message_taken, other_unsaid, sents-numbered}
use Rattle.lsp_trail.proofs.RenameSteps.{nothing_told}
use Rattle.lsp_trail.proofs.Standard.{IsOnDocument, on_document}

-- ---- the phase

abbrev phase_in : State → Phase
phase_in s = if s.exit then phases.Exited
    else (if s.shutdown then phases.Stopping
    else (if s.initialized then phases.Ready
    else (if is_some s.agreed then phases.Answered
    else (if not (is_some s.agreed) && not (is_empty s.initializes) then phases.Waiting
    else phases.Fresh))))

agrees : (sents : List Sent) → is_some (state_of sents).agreed ≡ is_done sents
agrees sents = is_some-mapped (λ (s : Settled). agreed_at s.value) (first_settled sents)

phase_as : (sents : List Sent) → phase sents ≡ phase_in (state_of sents)
phase_as sents =
    ap (λ (done : Bool). if was_sent is_exit sents then phases.Exited
    else (if was_sent is_shutdown sents then phases.Stopping
    else (if was_sent is_initialized sents then phases.Ready
    else (if done then phases.Answered
    else (if not done && not (is_empty (open_initializes sents)) then phases.Waiting
    else phases.Fresh))))) (sym (agrees sents))

phase_kept : (a b : List Sent) → state_of a ≡ state_of b → phase a ≡ phase b
phase_kept a b same = phase_as a ∙ ap phase_in same ∙ sym (phase_as b)

done_kept : (a b : List Sent) → state_of a ≡ state_of b → is_done a ≡ is_done b
done_kept a b same = sym (agrees a) ∙ ap (λ (s : State). is_some s.agreed) same ∙ agrees b

leads_none : (p : EventPlace) (own : Phase) → leads p own own ≡ None
leads_none p own = grind (arith, nat_tests)

abrupt_none : (p : EventPlace) (own : Phase) → abrupt p own own ≡ None
abrupt_none p own = grind (arith, nat_tests)

-- **what a session keeps stays**
quiet_state : (terms : Terms) (events : List Event) (m : Sent) (enc : Encoding) (kind : SyncKind)
    (call : Call) → rule_at terms events (message m) ≡ None → act_at m.side m.message ≡ Some m.act
    → call_of enc kind m.act ≡ Some call
    → state_of (sent_in (kept_of terms (events ++ message m ∷ [])))
    ≡ state_of (sent_in (kept_of terms events))
quiet_state terms events m enc kind call kept_now means says =
    let sents = sent_in (kept_of terms events) in
    ap (λ (es : List Event). state_of (sent_in es)) (kept-push terms events (message m) kept_now)
    ∙ ap state_of (filter_map-append sent_of (kept_of terms events) (message m ∷ []))
    ∙ leaves_session sents m.side m.message m.act enc kind call means says

-- ---- what is kept

neither : (b : Bool) → (let none : Option Ident = None in if b then none else none) ≡ None
neither true = refl
neither false = refl

module _ (p : EventPlace) (side : Side) (said : Message) (heard : IsOnDocument side said) where
  asks_none : (own : Side) (id : Ident) → asks own id p side said ≡ None
  asks_none own id =
      ap (asks own id p side) heard.is
      ∙ ap (λ o. if names o id then Some (Some p) else (if names o id then Some None else None))
      (neither (same_side own side))

  answers_none : (own : Side) → answered_from own side said ≡ None
  answers_none own = ap (answered_from own side) heard.is ∙ neither (same_side own side)

  exchanges_none : (own : Side) (e : Exchange) → Exchanges own p side said e e
  exchanges_none own e = record {
    asked = λ k. ap (λ (o : Option (Option EventPlace)). unwrap_or o (place_in e.asked (id_view k)))
        (sym (asks_none own (id_view k)));
    replies = λ given are. are ∙ ap (last_ones most_replies) (sym (append-nil given))
        ∙ ap (λ (o : Option Ident). last_ones most_replies
        (given ++ option_to_list (reply_of p o))) (sym (answers_none own));
  }

  misuse_none : misuse_in p side said ≡ None
  misuse_none = ap (misuse_in p side) heard.is
      ∙ ap (option_map (misused p heard.method)) heard.standard

  files_none : tells_files side said ≡ false
  files_none = by_side side
    where
      by_side : (by : Side) → tells_files by said ≡ false
      by_side Editor = ap notifies_files heard.is ∙ heard.no_files
      by_side Server = refl

  -- it leaves all notes but those on files
  quiet_says : (old : Conversation) (r : Renames) (before behind : List Sent)
      → old.phase ≡ phase before → old.notes.is_done ≡ is_done before
      → state_of behind ≡ state_of before
      → Says p side said (phase behind) (is_done behind) old (record old { renames = r })
  quiet_says old r before behind in_phase is_settled same = record {
    editor = exchanges_none Editor old.editor;
    server = exchanges_none Server old.server;
    phase_is = to_phase;
    since_is = ap (λ (o : Option (Option EventPlace)). unwrap_or o old.since)
        (sym (leads_none p old.phase) ∙ ap (leads p old.phase) to_phase);
    notes_more = record {
      misuses_are = ap (with_misuse (misused_views old.notes.misuses.items))
          (sym misuse_none);
      abrupt_is = ap (λ (o : Option (Option EventPlace)).
          unwrap_or o old.notes.abrupt_exit)
          (sym (abrupt_none p old.phase) ∙ ap (abrupt p old.phase) to_phase);
      done_is = to_done;
      older_is = by_same old.notes.is_done
          ∙ ap (λ (d : Bool). if not old.notes.is_done && d then older_of said else
          older_held old.notes) to_done;
    };
  }
    where
      to_phase : old.phase ≡ phase behind
      to_phase = in_phase ∙ sym (phase_kept behind before same)

      to_done : old.notes.is_done ≡ is_done behind
      to_done = is_settled ∙ sym (done_kept behind before same)

      by_same : (d : Bool) → older_held old.notes
          ≡ (if not d && d then older_of said else older_held old.notes)
      by_same true = refl
      by_same false = refl

-- **a call leaves all that is kept of the session**, but which document was edited under an old
-- URI
pub call_taken : (terms : Terms) (old : Conversation) (r : Renames) (events : List Event)
    (e : Event) (raw : Raw) (p : EventPlace) (call : Call) → IsConversation terms old events
    → rule_at terms events e ≡ None → Reads raw e → p ≡ place_of events e
    → call_at (kept_of terms events) e ≡ Some call → r.moves ≡ old.renames.moves
    → renamed_held r ≡ option_or (renamed_held old.renames)
    (renamed_by p (moves_view old.renames.moves.items) call)
    → IsConversation terms (record old { renames = r }) (events ++ e ∷ [])
call_taken terms old r events (fault side rule) raw p call are kept reads at says moves renamed =
    absurd (cc kept)
call_taken terms old r events (snapshot uri number text) raw p call are kept reads at says moves
    renamed =
    let moved = moves_view old.renames.moves.items in
    let none : renamed_by p moved call ≡ None =
    sym (ap (option_and_then (renamed_by p moved)) says) in
    other_unsaid terms (record old { renames = r }) events (snapshot uri number text) (record {
      editor = are.editor;
      server = are.server;
      phase_is = are.phase_is;
      since_is = are.since_is;
      notes_are = are.notes_are;
      renames_are = record {
        moves_are = ap (λ w. moves_view w.items) moves ∙ are.renames_are.moves_are;
        renamed_is = renamed ∙ ap (option_or (renamed_held old.renames)) none
            ∙ option_or-none (renamed_held old.renames) ∙ are.renames_are.renamed_is;
      };
    }) kept refl
call_taken terms old r events (message m) (broken side code) p call are kept reads at says moves
    renamed = absurd (cc reads)
call_taken terms old r events (message m) (show uri number text) p call are kept reads at says moves
    renamed = absurd (cc reads)
call_taken terms old r events (message m) (content side bytes) p call are kept reads at says moves
    renamed =
    let sents = sent_in (kept_of terms events) in
    let enc = unwrap_or (encoding sents) Utf16 in
    let kind = unwrap_or (sync_kind sents) Nothing in
    let means : act_at m.side m.message ≡ Some m.act =
    subst (λ (x : Side). act_at x m.message ≡ Some m.act) (sym reads.by) reads.means in
    let heard = on_document m.side m.message m.act enc kind call means says in
    let bare = without_params m.message in
    let own : IsOnDocument m.side bare = record {
      method = heard.method;
      params = None;
      is = ap without_params heard.is;
      standard = heard.standard;
      no_files = heard.no_files;
      no_diagnostics = heard.no_diagnostics;
    } in
    message_taken terms old (record old { renames = r }) events m bytes bare p are kept at
    reads.reads (ap outline heard.is ∙ sym (ap outline own.is)) (inr refl)
    (quiet_says p m.side bare own old r sents (sent_in (kept_of terms (events ++ message m ∷ [])))
    (are.phase_is ∙ ap phase (sents-numbered terms events))
    (are.notes_are.done_is ∙ ap is_done (sents-numbered terms events))
    (quiet_state terms events m enc kind call kept means says))
    (subst (λ o. RenamesIn p m.side bytes bare o old.renames r) (sym says)
    (nothing_told p m.side bytes bare (Some call) old.renames r r moves renamed
    (files_none p m.side bare own)))
