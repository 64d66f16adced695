-- The calls on documents of a session in which nothing offends, read off the editor's own order.
use Rattle.std.proofs.Common.{◌≡◌, Bool, true, false, cond, List, [], ◌∷◌, ◌++◌, All, Option, Some, None, is_some, inl, inr, refl, sym, ap, subst, ◌∙◌, append_assoc, true≢false}
use Rattle.std.specs.Prelude.{option_map, option_and_then, unwrap_or}
use Rattle.std.specs.List.{cons_option, filter_map}
use Rattle.std.specs.Option.{option_or}
use Rattle.std.proofs.lemmas.Bool.{cases_Bool}
use Rattle.std.proofs.lemmas.List.Elements.{All-head, All-tail}
use Rattle.std.proofs.lemmas.Option.{same_Some}
use Rattle.serde_json.specs.Data.{Data}
use Rattle.lsp_rpc.specs.Act.{Act, did_change, other}
use Rattle.lsp_rpc.specs.Message.{Message, request, notification, response}
use Rattle.lsp_rpc.specs.Params.{act_at}
use Rattle.lsp_types.specs.declared.position.Encoding.{Encoding}
use Rattle.lsp_types.specs.declared.position.Encoding.TheVariants.{Utf16}
use Rattle.lsp_types.specs.declared.side.Side.{Side}
use Rattle.lsp_types.specs.declared.side.Side.TheVariants.{Editor, Server}
use Rattle.lsp_types.specs.declared.change.SyncKind.{SyncKind}
use Rattle.lsp_types.specs.declared.change.SyncKind.TheVariants.{Nothing}
use Rattle.lsp_session.specs.Handshake.{first_settled, is_empty, open_initializes}
use Rattle.lsp_session.specs.Laws.{sent_by}
use Rattle.lsp_session.specs.Negotiation.{agreed_at}
use Rattle.lsp_session.specs.Rules.{rule_after}
use Rattle.lsp_session.specs.Sent.{Sent, is_exit, is_initialize, same_side}
use Rattle.lsp_session.specs.State.{agreed_in, state_of}
use Rattle.lsp_session.specs.declared.negotiation.Agreed.{Agreed}
use Rattle.lsp_docs.specs.Calls.{Call, shows}
use Rattle.lsp_docs.specs.Documents.{Terms}
use Rattle.lsp_verdict.specs.Event.{call_of, call_at, calls, Event, message, fault, snapshot}
use Rattle.lsp_verdict.specs.Event.{sent_in}
use Rattle.lsp_verdict.specs.Interleaving.{is_own, own, IsRead, first_result}
use Rattle.lsp_verdict.specs.LookBack.{first_from, each_from}
use Rattle.lsp_verdict.specs.Verdict.{no_by, no_at, first_no, offence}
use Rattle.lsp_verdict.proofs.Finding.{map_none}
use Rattle.lsp_verdict.proofs.Interleaving.Acts.{server_calls_nothing}
use Rattle.lsp_verdict.proofs.Interleaving.Handshake.{Stage, fresh, waiting, settled, at_first, first_result-append, late_rows, not_done, others_follow, rules}
use Rattle.lsp_verdict.proofs.Interleaving.Stages.{agreed_stage, one_more}
use Rattle.lsp_verdict.proofs.LookBackLemmas.{or_none_parts}
use Rattle.lsp_verdict.proofs.Messages.{sent_in-append, session_rule_none}

-- ---- what an event says under what a result agrees on

abbrev encoding_in : Option Agreed → Encoding
encoding_in a = unwrap_or (option_map (λ b. b.encoding) a) Utf16

abbrev kind_in : Option Agreed → SyncKind
kind_in a = unwrap_or (option_map (λ b. b.kind) a) Nothing

abbrev pub call_under : Option Agreed → Event → Option Call
call_under a (message m) = call_of (encoding_in a) (kind_in a) m.act
call_under a (fault side rule) = None
call_under a (snapshot uri n t) = Some (shows uri n t)

-- what a result agrees on
abbrev pub by_result : Option Data → Option Agreed
by_result result = option_and_then agreed_at result

abbrev is_change : Act → Bool
is_change (did_change uri n changes) = true
is_change _ = false

-- nothing but a change reads what was agreed
no_change : (a b : Option Agreed) (act : Act) → is_change act ≡ false → call_of (encoding_in a) (kind_in a) act ≡ call_of (encoding_in b) (kind_in b) act
no_change a b (did_change uri n changes) differs = absurd (true≢false differs)
no_change a b _ differs = refl

change_is : (act : Act) → is_change act ≡ true → (is_exit act ≡ false) × (is_initialize act ≡ false)
change_is (did_change uri n changes) is = (refl, refl)
change_is _ is = absurd (true≢false (sym is))

-- and no change comes before the first result
early_call : (a b : Option Agreed) (h : List Sent) (side : Side) (said : Message) (act : Act) → act_at side said ≡ Some act → rule_after h (sent_by side act said) ≡ None → first_settled h ≡ None
    → call_of (encoding_in a) (kind_in a) act ≡ call_of (encoding_in b) (kind_in b) act
early_call a b h Server said act read rule none = server_calls_nothing (encoding_in a) (kind_in a) said act read ∙ sym (server_calls_nothing (encoding_in b) (kind_in b) said act read)
early_call a b h Editor (response id reply) act read rule none = no_change a b act (ap is_change (sym (same_Some other act read)))
early_call a b h Editor (request id method params) act read rule none = elim (cases_Bool (is_change act)) [
  | inl is ↦
      let parts = change_is act is in
      let done = others_follow (state_of h).exit (is_exit act) (is_some (agreed_in (first_settled h))) (is_empty (open_initializes h)) (is_initialize act) (late_rows h act) parts.0 parts.1 (rules h (sent_by Editor act (request id method params)) rule).on_order in
      absurd (true≢false (sym done ∙ not_done h none))
  | inr other_ ↦ no_change a b act other_
]
early_call a b h Editor (notification method params) act read rule none = elim (cases_Bool (is_change act)) [
  | inl is ↦
      let parts = change_is act is in
      let done = others_follow (state_of h).exit (is_exit act) (is_some (agreed_in (first_settled h))) (is_empty (open_initializes h)) (is_initialize act) (late_rows h act) parts.0 parts.1 (rules h (sent_by Editor act (notification method params)) rule).on_order in
      absurd (true≢false (sym done ∙ not_done h none))
  | inr other_ ↦ no_change a b act other_
]

-- ---- a session

-- a first result of these messages is this one
abbrev pub Leads : List Sent → Option Data → Type 0
Leads messages result = (value : Data) → first_result messages ≡ Some value → result ≡ Some value

message_call : (h : List Sent) (m : Sent) (result : Option Data) → Stage h → act_at m.side m.message ≡ Some m.act → rule_after h m ≡ None → Leads h result
    → call_of (encoding_in (by_result (first_result h))) (kind_in (by_result (first_result h))) m.act ≡ call_of (encoding_in (by_result result)) (kind_in (by_result result)) m.act
message_call h m result (fresh f) read rule leads = early_call (by_result (first_result h)) (by_result result) h m.side m.message m.act read rule f.unsettled
message_call h m result (waiting w) read rule leads = early_call (by_result (first_result h)) (by_result result) h m.side m.message m.act read rule w.unsettled
message_call h m result (settled s) read rule leads =
    ap (λ r. call_of (encoding_in (by_result r)) (kind_in (by_result r)) m.act) (s.first ∙ sym (leads s.value s.first))

-- the event breaks no rule of a session
abbrev pub Keeps : List Event → Event → Type 0
Keeps before (message m) = rule_after (sent_in before) m ≡ None
Keeps before _ = Unit {0}

pub keeps : (terms : Terms) (before : List Event) (e : Event) → offence terms before e ≡ None → Keeps before e
keeps terms before (message m) none = session_rule_none terms before m none
keeps terms before _ none = tt

pub event_call : (before : List Event) (e : Event) (result : Option Data) → Stage (sent_in before) → IsRead e → Keeps before e → Leads (sent_in before) result → call_at before e ≡ call_under (by_result result) e
event_call before (message m) result stage read rule leads =
    ap (λ a. call_of (encoding_in a) (kind_in a) m.act) (agreed_stage (sent_in before) stage) ∙ message_call (sent_in before) m result stage read rule leads
event_call before _ result stage read _ leads = refl

-- what the first messages lead to
pub leads_front : (es fs : List Event) (result : Option Data) → Leads (sent_in (es ++ fs)) result → Leads (sent_in es) result
leads_front es fs result leads value e =
    leads value (ap first_result (sent_in-append es fs) ∙ first_result-append (sent_in es) (sent_in fs) ∙ ap (λ o. option_or o (first_result (sent_in fs))) e)

calls_from : (terms : Terms) (before es : List Event) (result : Option Data) → Stage (sent_in before) → All IsRead es → first_from (no_at terms) before es ≡ None → Leads (sent_in (before ++ es)) result
    → each_from call_at before es ≡ filter_map (call_under (by_result result)) es
calls_from terms before [] result stage read none leads = refl
calls_from terms before (e ∷ es) result stage read none leads =
    let parts = or_none_parts (no_at terms before e) (first_from (no_at terms) (before ++ e ∷ []) es) none in
    let clean = map_none (no_by before e) (offence terms before e) parts.0 in
    let head = All-head IsRead e es read in
    ap (λ o. cons_option o (each_from call_at (before ++ e ∷ []) es)) (event_call before e result stage head (keeps terms before e clean) (leads_front before (e ∷ es) result leads))
    ∙ ap (cons_option (call_under (by_result result) e))
    (calls_from terms (before ++ e ∷ []) es result (one_more terms before e stage head clean) (All-tail IsRead e es read) parts.1 (subst (λ w. Leads (sent_in w) result) (sym (append_assoc before (e ∷ []) es)) leads))

-- the server's events make no call
pub other_none : (a : Option Agreed) (e : Event) → IsRead e → is_own Editor e ≡ false → call_under a e ≡ None
other_none a (message m) read apart = by_side m.side read apart
  where
    by_side : (side : Side) → act_at side m.message ≡ Some m.act → same_side Editor side ≡ false → call_of (encoding_in a) (kind_in a) m.act ≡ None
    by_side Editor h apart = absurd (true≢false apart)
    by_side Server h apart = server_calls_nothing (encoding_in a) (kind_in a) m.message m.act h
other_none a (fault side rule) read apart = refl
other_none a (snapshot uri n t) read apart = absurd (true≢false apart)

only_own : (a : Option Agreed) (e : Event) (es : List Event) (b : Bool) → (b ≡ false → call_under a e ≡ None) → cons_option (call_under a e) (filter_map (call_under a) es) ≡ filter_map (call_under a) (cond b (e ∷ es) es)
only_own a e es true none = refl
only_own a e es false none = ap (λ o. cons_option o (filter_map (call_under a) es)) (none refl)

calls_editor : (a : Option Agreed) (es : List Event) → All IsRead es → filter_map (call_under a) es ≡ filter_map (call_under a) (own Editor es)
calls_editor a [] read = refl
calls_editor a (e ∷ es) read =
    ap (cons_option (call_under a e)) (calls_editor a es (All-tail IsRead e es read))
    ∙ only_own a e (own Editor es) (is_own Editor e) (other_none a e (All-head IsRead e es read))

-- the calls are those of the editor's events under what the first result agrees on
pub calls_own : (terms : Terms) (es : List Event) (result : Option Data) → All IsRead es → first_no terms es ≡ None → Leads (sent_in es) result
    → calls es ≡ filter_map (call_under (by_result result)) (own Editor es)
calls_own terms es result read none leads = calls_from terms [] es result at_first read none leads ∙ calls_editor (by_result result) es read
