-- Two interleavings of the same events: what they agree in, and where they can't.
use Rattle.std.proofs.Common.{◌≡◌, ℕ, Bool, true, false, cond, ◌&&◌, List, [], ◌∷◌, ◌++◌, map, length, All, Option, Some, None, is_some, inl, inr, refl, sym, ap, subst, ◌∙◌, append_assoc, true≢false}
use Rattle.std.proofs.lemmas.Bool.{and_parts, cases_Bool}
use Rattle.std.specs.Prelude.{filter, if◌then◌else◌, option_map, option_and_then}
use Rattle.std.specs.List.{filter_map}
use Rattle.std.specs.Option.{option_or}
use Rattle.std.proofs.lemmas.List.Elements.{filter-append, All-head}
use Rattle.std.proofs.lemmas.Option.{same_Some}
use Rattle.serde_json.specs.Data.{Data}
use Rattle.lsp_rpc.specs.Act.{Act}
use Rattle.lsp_rpc.specs.Ident.{Ident}
use Rattle.lsp_rpc.specs.Message.{Message, request, notification, response, Reply}
use Rattle.lsp_types.specs.declared.side.Side.{Side}
use Rattle.lsp_types.specs.declared.side.Side.TheVariants.{Editor, Server}
use Rattle.lsp_session.specs.Entry.{Entry, has_id}
use Rattle.lsp_session.specs.Handshake.{initialize_at, initialize_by, offer_to, open_initializes, result_of, settled_at, settled_by}
use Rattle.lsp_session.specs.Laws.{sent_by}
use Rattle.lsp_session.specs.Lifecycle.{Row, first_answer, fits, lifecycle_rule, table}
use Rattle.lsp_session.specs.Negotiation.{agreed, negotiation_rule, register_rule, settled_rule}
use Rattle.lsp_session.specs.Requests.{id_rule, open_requests, request_rule}
use Rattle.lsp_session.specs.Rules.{rule_after}
use Rattle.lsp_session.specs.Sent.{Sent, is_response, other_side, request_of, same_side}
use Rattle.lsp_session.proofs.LawLemmas.{same_side-refl}
use Rattle.lsp_docs.specs.Documents.{documents, Terms}
use Rattle.lsp_docs.specs.Rules.{call_rule}
use Rattle.lsp_docs.specs.Snapshots.{unmatched}
use Rattle.lsp_verdict.specs.Event.{call_at, calls, Event, message, fault, snapshot, sent_in}
use Rattle.lsp_verdict.specs.Interleaving.{order_of, is_own, own, AreInterleavings, IsRead, is_asked, is_reply, first_result, is_order_rule, complete, BothYesAgree, OnlyOrderOffends}
use Rattle.lsp_verdict.specs.Verdict.{Summary, Verdict, document_of, document_rule, first_no, no, no_at, no_by, offence, summary, verdict, yes}
use Rattle.lsp_verdict.specs.declared.verdict.Who.{Who}
use Rattle.lsp_verdict.proofs.CallsMade.{document_rule_none}
use Rattle.lsp_verdict.proofs.Finding.{or_cases, same_split}
use Rattle.lsp_verdict.proofs.Interleaving.Calls.{Keeps, Leads, by_result, call_under, calls_own, event_call, keeps, leads_front, other_none}
use Rattle.lsp_verdict.proofs.Interleaving.Handshake.{IsWaiting, IsSettled, Stage, fresh, waiting, settled, never, no_offer, open_rule, replying, starting}
use Rattle.lsp_verdict.proofs.Interleaving.Parts.{Place, only_from, place, read_back, read_front, read_others, sent_own}
use Rattle.lsp_verdict.proofs.Interleaving.Stages.{agreed_own, result_own, stage_of}
use Rattle.lsp_verdict.proofs.LookBackLemmas.{first_of-append, or_none_parts}
use Rattle.lsp_verdict.proofs.Messages.{sent_in-append}
use Rattle.lsp_verdict.proofs.Verdicts.{Why, is_refused, is_yes, names_first, nothing_found, nothing_offends, yes_where}

-- ---- what two interleavings have in common

one_result : (es fs : List Event) → AreInterleavings es fs → first_result (sent_in es) ≡ first_result (sent_in fs)
one_result es fs same = result_own es ∙ ap (λ w. first_result (sent_in w)) same.server ∙ sym (result_own fs)

leads_own : (es : List Event) → Leads (sent_in es) (first_result (sent_in es))
leads_own es value e = e

leads_other : (es fs : List Event) → AreInterleavings es fs → Leads (sent_in fs) (first_result (sent_in es))
leads_other es fs same value e = one_result es fs same ∙ e

-- both make the same calls
same_calls : (terms : Terms) (es fs : List Event) (result : Option Data) → All IsRead es → All IsRead fs → first_no terms es ≡ None → first_no terms fs ≡ None → Leads (sent_in es) result → Leads (sent_in fs) result
    → own Editor es ≡ own Editor fs → calls es ≡ calls fs
same_calls terms es fs result read other clean also leads follows same =
    calls_own terms es result read clean leads ∙ ap (filter_map (call_under (by_result result))) same ∙ sym (calls_own terms fs result other also follows)

same_agreed : (terms : Terms) (es fs : List Event) → All IsRead es → All IsRead fs → first_no terms es ≡ None → first_no terms fs ≡ None → own Server es ≡ own Server fs → agreed (sent_in es) ≡ agreed (sent_in fs)
same_agreed terms es fs read other clean also same =
    agreed_own terms es read clean ∙ ap (λ w. by_result (first_result (sent_in w))) same ∙ sym (agreed_own terms fs other also)

-- ---- both are Yes

summary_is : (terms : Terms) (es : List Event) (s : Summary) → verdict terms es complete ≡ yes s → s ≡ summary terms es
summary_is terms es s says =
    let same : yes s ≡ yes (summary terms es) = sym says ∙ yes_where terms es complete (is_yes terms es complete s says) in
    cc same

pub both_yes : BothYesAgree
both_yes terms es fs s t read same first second =
    let clean = (is_yes terms es complete s first).none in
    let also = (is_yes terms fs complete t second).none in
    let other = read_others es fs read same in
    let s_is = summary_is terms es s first in
    let t_is = summary_is terms fs t second in
    let made = same_calls terms es fs (first_result (sent_in es)) read other clean also (leads_own es) (leads_other es fs same) same.editor in
    let picks = same_agreed terms es fs read other clean also same.server in
    record {
      held = ap (documents terms) made;
      listed = ap (λ k. k.documents) s_is ∙ ap (λ c. map document_of (documents terms c)) made ∙ sym (ap (λ k. k.documents) t_is);
      unmatched = ap (λ k. k.unmatched) s_is ∙ ap (unmatched terms) made ∙ sym (ap (λ k. k.unmatched) t_is);
      encoding = ap (λ k. k.encoding) s_is ∙ ap (option_map (λ a. a.encoding)) picks ∙ sym (ap (λ k. k.encoding) t_is);
      sync = ap (λ k. k.sync) s_is ∙ ap (option_map (λ a. a.kind)) picks ∙ sym (ap (λ k. k.sync) t_is);
    }

-- ---- an event that stands in both

same_own : (es fs : List Event) → AreInterleavings es fs → (side : Side) → own side es ≡ own side fs
same_own es fs same Editor = same.editor
same_own es fs same Server = same.server

-- an event of one list, found in the other by its place in its side's order
found : (es fs before : List Event) (e : Event) (after : List Event) → AreInterleavings es fs → fs ≡ before ++ e ∷ after → Place (is_own (order_of e)) es (own (order_of e) before) e
found es fs before e after same whole =
    place (is_own (order_of e)) es (own (order_of e) before) e (own (order_of e) after) (
    same_own es fs same (order_of e) ∙ ap (own (order_of e)) whole ∙ filter-append (is_own (order_of e)) before (e ∷ after)
    ∙ ap (λ b. own (order_of e) before ++ cond b (e ∷ own (order_of e) after) (own (order_of e) after)) (same_side-refl (order_of e)))

-- the editor's requests and the server's responses stand in their side's own order
asks_own : (es : List Event) → filter is_asked (sent_in es) ≡ filter is_asked (sent_in (own Editor es))
asks_own es = only_from Editor is_asked (λ m apart. ap (λ b. is_some (if b then request_of m.message else None)) apart) (sent_in es) ∙ ap (filter is_asked) (sym (sent_own Editor es))

replies_own : (es : List Event) → filter is_reply (sent_in es) ≡ filter is_reply (sent_in (own Server es))
replies_own es = only_from Server is_reply (λ m apart. ap (λ b. b && is_response m.message) apart) (sent_in es) ∙ ap (filter is_reply) (sym (sent_own Server es))

asks_append : (es fs : List Event) → filter is_asked (sent_in es) ++ filter is_asked (sent_in fs) ≡ filter is_asked (sent_in (es ++ fs))
asks_append es fs = sym (filter-append is_asked (sent_in es) (sent_in fs)) ∙ ap (filter is_asked) (sym (sent_in-append es fs))

-- ---- the rules of the negotiation

start_is : (h : List Sent) (w : IsWaiting h) → initialize_by (starting w.id w.method w.params w.act) ≡ Some (record { id = w.id; offer = w.offer })
start_is h w = ap (initialize_at (Some (w.id, w.method))) w.offers

asked_at : (h more : List Sent) (w : IsWaiting h) → filter is_asked h ++ more ≡ filter is_asked w.earlier ++ starting w.id w.method w.params w.act ∷ (filter is_asked w.between ++ more)
asked_at h more w =
    ap (λ l. l ++ more) (ap (filter is_asked) w.place ∙ filter-append is_asked w.earlier (starting w.id w.method w.params w.act ∷ w.between))
    ∙ append_assoc (filter is_asked w.earlier) (starting w.id w.method w.params w.act ∷ filter is_asked w.between) more

-- the same `initialize` is open, where the server has replied as often
one_start : (h k more rest : List Sent) (w : IsWaiting h) (v : IsWaiting k) → filter is_asked h ++ more ≡ filter is_asked k ++ rest → length (filter is_reply h) ≡ length (filter is_reply k) → open_initializes h ≡ open_initializes k
one_start h k more rest w v asks replies =
    let split = same_split (filter is_asked w.earlier) (filter is_asked v.earlier) _ _ (w.turn ∙ replies ∙ sym v.turn) (sym (asked_at h more w) ∙ asks ∙ asked_at k rest v) in
    let same : starting w.id w.method w.params w.act ≡ starting v.id v.method v.params v.act = cc split.1 in
    w.starts ∙ ap (λ i. i ∷ []) (same_Some _ _ (sym (start_is h w) ∙ ap initialize_by same ∙ start_is k v)) ∙ sym v.starts

clash : {X : Type 0} (h k : List Sent) (w : IsWaiting h) (s : IsSettled k) → first_result h ≡ first_result k → X
clash h k w s same = absurd (true≢false (ap is_some (sym s.first ∙ sym same ∙ w.no_result)))

-- where a response of the server is due in both
one_open : (h k more rest : List Sent) (id : Option Ident) (reply : Reply) (act : Act) → Stage h → Stage k → request_rule h (replying id reply act) ≡ None → request_rule k (replying id reply act) ≡ None
    → filter is_asked h ++ more ≡ filter is_asked k ++ rest → length (filter is_reply h) ≡ length (filter is_reply k) → first_result h ≡ first_result k → open_initializes h ≡ open_initializes k
one_open h k more rest id reply act (fresh f) t p q asks replies results = never id (open_rule h id reply act [] p f.none_open)
one_open h k more rest id reply act (waiting w) (waiting v) p q asks replies results = one_start h k more rest w v asks replies
one_open h k more rest id reply act (waiting w) (settled s) p q asks replies results = clash h k w s results
one_open h k more rest id reply act (settled s) (waiting v) p q asks replies results = clash k h v s (sym results)
one_open h k more rest id reply act (settled s) (settled t) p q asks replies results = s.none_starts ∙ sym t.none_starts
one_open h k more rest id reply act _ (fresh f) p q asks replies results = never id (open_rule k id reply act [] q f.none_open)

-- what a message settles is the same in both
one_settled : (h k more rest : List Sent) (side : Side) (said : Message) (act : Act) → Stage h → Stage k → request_rule h (sent_by side act said) ≡ None → request_rule k (sent_by side act said) ≡ None
    → filter is_asked h ++ more ≡ filter is_asked k ++ rest → (side ≡ Server → (length (filter is_reply h) ≡ length (filter is_reply k)) × (first_result h ≡ first_result k))
    → settled_by h (sent_by side act said) ≡ settled_by k (sent_by side act said)
one_settled h k more rest Editor said act s t p q asks turn = ap (λ o. settled_at o (result_of said)) (no_offer (open_initializes h) ∙ sym (no_offer (open_initializes k)))
one_settled h k more rest Server (response id reply) act s t p q asks turn =
    let facts = turn refl in
    ap (λ starts. settled_at (offer_to id starts) (result_of (response id reply))) (one_open h k more rest id reply act s t p q asks facts.0 facts.1)
one_settled h k more rest Server _ act s t p q asks turn = ap (λ o. settled_at o None) (no_offer (open_initializes h) ∙ sym (no_offer (open_initializes k)))

-- ---- the rules on the order

abbrev is_ordered : Option ℕ → Bool
is_ordered None = true
is_ordered (Some rule) = is_order_rule rule

if_ordered : (b : Bool) (x y : Option ℕ) → is_ordered x ≡ true → is_ordered y ≡ true → is_ordered (if b then x else y) ≡ true
if_ordered true x y p q = p
if_ordered false x y p q = q

ids_ordered : (asked other : List Entry) (said : Message) → is_ordered (id_rule asked other said) ≡ true
ids_ordered asked other (request id method params) = if_ordered (has_id id asked) (Some 302) None refl refl
ids_ordered asked other (response (Some id) reply) = if_ordered (has_id id other) None (Some 301) refl refl
ids_ordered asked other _ = refl

abbrev all_ordered : List Row → Bool
all_ordered [] = true
all_ordered (row ∷ rows) = is_ordered row.answer && all_ordered rows

rows_ordered : (test : Row → Bool) (rows : List Row) → all_ordered rows ≡ true → is_ordered (first_answer test rows) ≡ true
rows_ordered test [] h = refl
rows_ordered test (row ∷ rows) h =
    let parts = and_parts (is_ordered row.answer) (all_ordered rows) h in
    if_ordered (test row) row.answer (first_answer test rows) parts.0 (rows_ordered test rows parts.1)

-- ---- the first event that offends in one list, where nothing offends in the other

module _ (terms : Terms) (es fs : List Event) (read : All IsRead es) (same : AreInterleavings es fs) (clean : first_no terms es ≡ None) (e : Event) (front back before after : List Event) (in_es : es ≡ front ++ e ∷ back)
    (in_fs : fs ≡ before ++ e ∷ after) (first : first_no terms before ≡ None) (alike : own (order_of e) front ≡ own (order_of e) before) where
  abbrev result : Option Data
  result = first_result (sent_in es)

  front_clean : first_no terms front ≡ None
  front_clean = (or_none_parts (first_no terms front) _ (sym (first_of-append (no_at terms) front (e ∷ back)) ∙ ap (first_no terms) (sym in_es) ∙ clean)).0

  stays : offence terms front e ≡ None
  stays = nothing_offends terms es clean front back e in_es

  reads : All IsRead (front ++ e ∷ back)
  reads = subst (All IsRead) in_es read

  reads_too : All IsRead (before ++ e ∷ after)
  reads_too = subst (All IsRead) in_fs (read_others es fs read same)

  e_read : IsRead e
  e_read = All-head IsRead e back (read_back front (e ∷ back) reads)

  front_stage : Stage (sent_in front)
  front_stage = stage_of terms front (read_front front (e ∷ back) reads) front_clean

  before_stage : Stage (sent_in before)
  before_stage = stage_of terms before (read_front before (e ∷ after) reads_too) first

  front_leads : Leads (sent_in front) result
  front_leads = leads_front front (e ∷ back) result (subst (λ w. Leads (sent_in w) result) in_es (leads_own es))

  before_leads : Leads (sent_in before) result
  before_leads = leads_front before (e ∷ after) result (subst (λ w. Leads (sent_in w) result) in_fs (leads_other es fs same))

  -- an event of the editor's follows the same calls
  made : is_own Editor e ≡ true → calls front ≡ calls before
  made editor =
      same_calls terms front before result (read_front front (e ∷ back) reads) (read_front before (e ∷ after) reads_too) front_clean first front_leads before_leads
      (by_side (order_of e) alike editor)
    where
      by_side : (side : Side) → own side front ≡ own side before → same_side Editor side ≡ true → own Editor front ≡ own Editor before
      by_side Editor h editor = h
      by_side Server h editor = absurd (true≢false (sym editor))

  call_before : Keeps before e → call_at before e ≡ call_under (by_result result) e
  call_before k = event_call before e result before_stage e_read k before_leads

  call_front : call_at front e ≡ call_under (by_result result) e
  call_front = event_call front e result front_stage e_read (keeps terms front e stays) front_leads

  -- so it breaks no rule on documents
  no_document_rule : Keeps before e → document_rule terms before e ≡ None
  no_document_rule k = elim (cases_Bool (is_own Editor e)) [
    | inl editor ↦
        ap (λ c. option_and_then (call_rule terms c) (call_at before e)) (sym (made editor))
        ∙ ap (option_and_then (call_rule terms (calls front))) (call_before k ∙ sym call_front)
        ∙ document_rule_none terms front e stays
    | inr server ↦ ap (option_and_then (call_rule terms (calls before))) (call_before k ∙ other_none (by_result result) e e_read server)
  ]

  replied : order_of e ≡ Server → (length (filter is_reply (sent_in front)) ≡ length (filter is_reply (sent_in before))) × (first_result (sent_in front) ≡ first_result (sent_in before))
  replied server =
      let both_own : own Server front ≡ own Server before = subst (λ side. own side front ≡ own side before) server alike in (
        ap length (replies_own front ∙ ap (λ w. filter is_reply (sent_in w)) both_own ∙ sym (replies_own before)),
        result_own front ∙ ap (λ w. first_result (sent_in w)) both_own ∙ sym (result_own before),
      )

  asks_alike : filter is_asked (sent_in front) ++ filter is_asked (sent_in (e ∷ back)) ≡ filter is_asked (sent_in before) ++ filter is_asked (sent_in (e ∷ after))
  asks_alike =
      asks_append front (e ∷ back) ∙ ap (λ w. filter is_asked (sent_in w)) (sym in_es) ∙ asks_own es ∙ ap (λ w. filter is_asked (sent_in w)) same.editor ∙ sym (asks_own fs)
      ∙ ap (λ w. filter is_asked (sent_in w)) in_fs ∙ sym (asks_append before (e ∷ after))

never_some : {X : Type 0} (o : Option ℕ) (rule : ℕ) → o ≡ Some rule → o ≡ None → X
never_some o rule is none = absurd (true≢false (ap is_some (sym is ∙ none)))

named_rule : (o : Option ℕ) (rule : ℕ) → is_ordered o ≡ true → o ≡ Some rule → is_order_rule rule ≡ true
named_rule o rule ordered is = sym (ap is_ordered is) ∙ ordered

-- the other rules of a message are broken in both or in neither
message_ordered : (terms : Terms) (es fs : List Event) → All IsRead es → AreInterleavings es fs → first_no terms es ≡ None → (m : Sent) (front back before after : List Event) → es ≡ front ++ message m ∷ back
    → fs ≡ before ++ message m ∷ after → first_no terms before ≡ None → own m.side front ≡ own m.side before → (rule : ℕ) → offence terms before (message m) ≡ Some rule → is_order_rule rule ≡ true
message_ordered terms es fs read same clean m front back before after in_es in_fs first alike rule offends =
    let admitted = keeps terms front (message m) (stays terms es fs read same clean (message m) front back before after in_es in_fs first alike) in
    let asked = or_none_parts (request_rule (sent_in front) m) _ admitted in
    let agreed_on = (or_none_parts (lifecycle_rule (sent_in front) m) _ asked.1).1 in
    elim (or_cases (rule_after (sent_in before) m) (document_rule terms before (message m)) rule offends) [
      | inl by ↦ elim (or_cases (request_rule (sent_in before) m) (option_or (lifecycle_rule (sent_in before) m) (negotiation_rule (sent_in before) m)) rule by) [
        | inl p ↦ named_rule (request_rule (sent_in before) m) rule (ids_ordered (open_requests m.side (sent_in before)) (open_requests (other_side m.side) (sent_in before)) m.message) p
        | inr r ↦ elim (or_cases (lifecycle_rule (sent_in before) m) (negotiation_rule (sent_in before) m) rule r.1) [
          | inl p ↦ named_rule (lifecycle_rule (sent_in before) m) rule (rows_ordered (fits (sent_in before) m) table refl) p
          | inr n ↦
              let settles =
              one_settled (sent_in front) (sent_in before) _ _ m.side m.message m.act
              (front_stage terms es fs read same clean (message m) front back before after in_es in_fs first alike)
              (before_stage terms es fs read same clean (message m) front back before after in_es in_fs first alike)
              asked.0 r.0
              (asks_alike terms es fs read same clean (message m) front back before after in_es in_fs first alike)
              (replied terms es fs read same clean (message m) front back before after in_es in_fs first alike) in
              never_some (negotiation_rule (sent_in before) m) rule n.1 (ap (λ o. option_or (settled_rule o) (register_rule m.side m.act)) (sym settles) ∙ agreed_on)
        ]
      ]
      | inr d ↦
          never_some (document_rule terms before (message m)) rule d.1
          (no_document_rule terms es fs read same clean (message m) front back before after in_es in_fs first alike d.0)
    ]

event_ordered : (terms : Terms) (es fs : List Event) → All IsRead es → AreInterleavings es fs → first_no terms es ≡ None → (e : Event) (front back before after : List Event) → es ≡ front ++ e ∷ back
    → fs ≡ before ++ e ∷ after → first_no terms before ≡ None → own (order_of e) front ≡ own (order_of e) before → (rule : ℕ) → offence terms before e ≡ Some rule → is_order_rule rule ≡ true
event_ordered terms es fs read same clean (message m) front back before after in_es in_fs first alike rule offends =
    message_ordered terms es fs read same clean m front back before after in_es in_fs first alike rule offends
event_ordered terms es fs read same clean (fault side named) front back before after in_es in_fs first alike rule offends =
    never_some (Some named) named refl (stays terms es fs read same clean (fault side named) front back before after in_es in_fs first alike)
event_ordered terms es fs read same clean (snapshot uri n t) front back before after in_es in_fs first alike rule offends =
    never_some (document_rule terms before (snapshot uri n t)) rule offends
    (no_document_rule terms es fs read same clean (snapshot uri n t) front back before after in_es in_fs first alike tt)

-- ---- one is Yes and the other No

first_offends : (terms : Terms) (fs : List Event) (v : Verdict) → Why terms fs complete v → first_no terms fs ≡ Some v
first_offends terms fs v (inl first) = first
first_offends terms fs v (inr (none, inl log)) = let same : None ≡ Some v = log in absurd cc
first_offends terms fs v (inr (none, inr (no_log, rest))) = let same : None ≡ Some v = rest in absurd cc

rule_is : (rule named : ℕ) (who : Who) (number event : ℕ) (before : List Event) (e : Event) → no rule who number event ≡ no_by before e named → named ≡ rule
rule_is rule named who number event before e same = let rules : rule ≡ named = cc same in sym rules

pub one_yes : OnlyOrderOffends
one_yes terms es fs s rule who number event read same says refuses =
    let clean = (is_yes terms es complete s says).none in
    let n = names_first terms fs (no rule who number event) (first_offends terms fs (no rule who number event) (is_refused terms fs complete (no rule who number event) tt refuses)) in
    let p = found es fs n.before n.event n.after same n.whole in
    subst (λ r. is_order_rule r ≡ true) (rule_is rule n.rule who number event n.before n.event n.is)
    (event_ordered terms es fs read same clean n.event p.before p.after n.before n.after p.whole n.whole (nothing_found terms n.before n.first) p.same n.rule n.offends)
